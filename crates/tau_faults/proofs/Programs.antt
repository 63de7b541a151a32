-- The programs of a storm.
use Rattle.std.proofs.Common.{◌≡◌, ⊎_elim, ℕ, suc, ◌+◌, ◌-◌, ◌<◌, ◌≤◌, List, [], ◌∷◌, ◌++◌, length, take, drop, All, refl, sym, ap, ◌∙◌, subst, arith, length-append, length-take, take-append-drop, append_assoc}
use Rattle.std.specs.Prelude.{slice_get}
use Rattle.std.proofs.lemmas.Bool.{cases_lt}
use Rattle.std.proofs.lemmas.List.Elements.{All-append, All-cons, All-take, All-drop}
use Rattle.tau_value.specs.declared.limits.TheConstants.{ENTRY_LIMIT}
use Rattle.tau_tree.specs.declared.entries.Entry.{Entry}
use Rattle.tau_tree.specs.declared.entries.Failure.{Failure}
use Rattle.tau_tree.specs.declared.programs.Program.{Program}
use Rattle.tau_tree.specs.Sound.{Sound, IsSoundFailure}
use Rattle.tau_trace.specs.Run.{Run}
use Rattle.tau_script.specs.declared.cursor.Cursor.{Cursor}
use Rattle.tau_script.specs.Cursors.{IsRipe, CursorAt}
use Rattle.tau_script.specs.Laws.{ScriptsAreDetermined, ScriptsAreLocal}
use Rattle.tau_revival.proofs.Revival.{cursor_within}
use Rattle.tau_book.specs.SerialRun.{IsSerialRun}
use Rattle.tau_book.specs.Laws.{SerialRunIsUnique}
use Rattle.tau_faults.specs.declared.setting.Setting.{Setting}
use Rattle.tau_faults.specs.Faults.{IsFaulted, IsEffective, fails, loses, repeats, inserted, with_entry}
use Rattle.tau_faults.specs.Ends.{Storms, itself, further}
use Rattle.tau_faults.specs.Laws.{AreMerged, none}
use Rattle.tau_faults.proofs.Coming.{none_ripe, fault_comes}
use Rattle.tau_faults.proofs.Growing.{cursor_earlier}
use Rattle.tau_faults.proofs.Inserted.{cursor_there, get_inserted, not_passed}
use Rattle.tau_faults.proofs.Merging.{merged_first, merged_other, inserted_behind}

pub length-inserted : (S : List Entry) (n : ℕ) (e : Entry) → length (inserted S n e) ≡ length S + 1
length-inserted S n e = omega (arith, length-append (take n S) (e ∷ drop n S), ap length (take-append-drop n S), length-append (take n S) (drop n S))

sound_inserted : (nodes version : ℕ) (S : List Entry) (n : ℕ) (e : Entry) → IsSoundFailure nodes version e.failure → All (λ x. IsSoundFailure nodes version x.failure) S → All (λ x. IsSoundFailure nodes version x.failure) (inserted S n e)
sound_inserted nodes version S n e is all =
    All-append (λ x. IsSoundFailure nodes version x.failure) (take n S) (e ∷ drop n S) (All-take (λ x. IsSoundFailure nodes version x.failure) n S all)
    (All-cons (λ x. IsSoundFailure nodes version x.failure) e (drop n S) is (All-drop (λ x. IsSoundFailure nodes version x.failure) n S all))

-- with one entry more a sound program is sound
sound_with : (P : Program) (n : ℕ) (e : Entry) → Sound P → length P.script < ENTRY_LIMIT → IsSoundFailure P.nodes P.version e.failure → Sound (with_entry P n e)
sound_with P n e s room is = record {
  some_version = s.some_version;
  versions_limit = s.versions_limit;
  some_nodes = s.some_nodes;
  nodes_limit = s.nodes_limit;
  behaviours_limit = s.behaviours_limit;
  starts_limit = s.starts_limit;
  posts_limit = s.posts_limit;
  entries_limit = omega (arith, room, length-inserted P.script n e);
  behaviours_named = s.behaviours_named;
  behaviours_distinct = s.behaviours_distinct;
  starts_named = s.starts_named;
  starts_distinct = s.starts_distinct;
  start_behaviours = s.start_behaviours;
  start_nodes = s.start_nodes;
  state_names = s.state_names;
  receivers = s.receivers;
  post_names = s.post_names;
  sound_failures = sound_inserted P.nodes P.version P.script n e is s.sound_failures;
  states_bounded = s.states_bounded;
  posts_bounded = s.posts_bounded;
  texts_bounded = s.texts_bounded;
  variables_bound = s.variables_bound;
  variables_named = s.variables_named;
  body_starts = s.body_starts;
  body_behaviours = s.body_behaviours;
  arities = s.arities;
  sequences = s.sequences;
  folds = s.folds;
  bodies_depth = s.bodies_depth;
  states_depth = s.states_depth;
  posts_depth = s.posts_depth;
}

sound_effect : (P : Program) (T : Run) (k : ℕ) (f : Failure) → IsEffective P T k f → IsSoundFailure P.nodes P.version f
sound_effect P T k f (fails low lives) = low
sound_effect P T k f (loses flies) = tt
sound_effect P T k f (repeats v flies) = v

pub sound_faulted : (every : ℕ) (P : Program) (T : Run) (k : ℕ) (f : Failure) (Q : Program) → Sound P → IsFaulted every P T k f Q → Sound Q
sound_faulted every P T k f Q sound is =
    subst Sound (sym is.faulted) (sound_with P is.cursor.entry (record { at = k; failure = f }) sound is.room (sound_effect P T k f is.effective))

pub sound_storm : (O : Program) (S : Setting) (seed from : ℕ) (faults : List Entry) (P : Program) → Sound O → Storms O S seed from faults P → Sound P
sound_storm O S seed from faults P sound itself = sound
sound_storm O S seed from faults P sound (further {from = start} {k = k} {faults = before} {P = R} {T = T} {f = f} comes s low q) =
    sound_faulted S.every R T k f P (sound_storm O S seed start before R sound comes) q

-- they differ in the script alone
pub parts_storm : (O : Program) (S : Setting) (seed from : ℕ) (faults : List Entry) (P : Program) → Storms O S seed from faults P → P ≡ record O { script = P.script }
parts_storm O S seed from faults P itself = refl
parts_storm O S seed from faults P (further {from = start} {k = k} {faults = before} {P = R} {T = T} {f = f} comes s low q) =
    let old : R ≡ record O { script = R.script } = parts_storm O S seed start before R comes in
    q.faulted ∙ ap (λ (X : Program). record X { script = inserted R.script q.cursor.entry (record { at = k; failure = f }) }) old ∙ ap (λ (l : List Entry). record O { script = l }) (sym (ap (λ (X : Program). X.script) q.faulted))

-- the faults stand in the script among its first entries, and from this place on the cursor of a serial run at which no entry is ripe is
-- behind these
pub record IsPlaced (O P : Program) (jobs seed limit from : ℕ) (faults : List Entry) : Type 0 where
  pub front : List Entry
  pub back : List Entry
  pub merged : List Entry
  pub old : O.script ≡ front ++ back
  pub new : P.script ≡ merged ++ back
  pub are : AreMerged front faults merged
  pub behind : (T : Run) (k : ℕ) (c : Cursor) → IsSerialRun P jobs seed limit T → from ≤ k → CursorAt P.script T k c → ((e : Entry) → ¬ IsRipe P.script k c e) → length merged ≤ c.entry

module _ (unique : SerialRunIsUnique) (determined : ScriptsAreDetermined) (local : ScriptsAreLocal) (O P Q : Program) (jobs seed limit every from k : ℕ) (f : Failure) (T : Run) (faults : List Entry) (s : IsSerialRun P jobs seed limit T) (low : from ≤ k) (q : IsFaulted every P T k f Q) where
  abbrev new_entry : Entry
  new_entry = record { at = k; failure = f }

  abbrev R : List Entry
  R = inserted P.script q.cursor.entry (record { at = k; failure = f })

  script_is : Q.script ≡ R
  script_is = ap (λ (X : Program). X.script) q.faulted

  -- after the fault's place the cursor comes behind its entry
  module _ (U : Run) (j : ℕ) (e : Cursor) (u : IsSerialRun Q jobs seed limit U) (later : suc k ≤ j) (at : CursorAt R U j e) (not : (x : Entry) → ¬ IsRipe R j e x) where
    at_fault : CursorAt R U k q.cursor
    at_fault =
        let there : CursorAt R T k q.cursor = cursor_there determined P.script T k f q.cursor q.stands (none_ripe determined every P T k f Q q) (not_passed P T k f q.effective) in
        ((local R T U k (fault_comes unique determined local P Q jobs seed limit every k f T U s q u).front).cursor q.cursor).0 there

    not_before : q.cursor.entry ≤ e.entry
    not_before =
        let up : j ≡ (j - k) + k = omega (arith, later) in
        let early = cursor_earlier R U (j - k) k e (subst (λ (i : ℕ). CursorAt R U i e) up at) in
        let there = determined R U k in
        let same : early.0 ≡ q.cursor = (there.cursor_is early.0).0 early.1 ∙ sym ((there.cursor_is q.cursor).0 at_fault) in
        omega (arith, early.2, ap (λ (y : Cursor). y.entry) same)

    not_there : e.entry ≤ q.cursor.entry → ⊥
    not_there le =
        let same : e.entry ≡ q.cursor.entry = omega (arith, le, not_before) in
        not new_entry (record { stands = ap (slice_get R) same ∙ get_inserted P.script q.cursor.entry new_entry (cursor_within P.script T k q.cursor q.stands); ripe = omega (arith, later) })

    passed : q.cursor.entry < e.entry
    passed = ⊎_elim (λ (lt : q.cursor.entry < e.entry). lt) (λ (le : e.entry ≤ q.cursor.entry). absurd (not_there le)) (cases_lt q.cursor.entry e.entry)

  module _ (p : IsPlaced O P jobs seed limit from faults) where
    abbrev d : ℕ
    d = q.cursor.entry - length p.merged

    le : length p.merged ≤ q.cursor.entry
    le = p.behind T k q.cursor s low q.stands (none_ripe determined every P T k f Q q)

    few : length ((p.merged ++ take d p.back) ++ new_entry ∷ []) ≤ q.cursor.entry + 1
    few = omega (arith, le, length-append (p.merged ++ take d p.back) (new_entry ∷ []), length-append p.merged (take d p.back), length-take d p.back)

    behind_it : (U : Run) (j : ℕ) (e : Cursor) → IsSerialRun Q jobs seed limit U → suc k ≤ j → CursorAt Q.script U j e → ((x : Entry) → ¬ IsRipe Q.script j e x) → length ((p.merged ++ take d p.back) ++ new_entry ∷ []) ≤ e.entry
    behind_it U j e u later at not =
        omega (arith, few, passed U j e u later (subst (λ (l : List Entry). CursorAt l U j e) script_is at) (subst (λ (l : List Entry). (x : Entry) → ¬ IsRipe l j e x) script_is not))

    pub placed_more : IsPlaced O Q jobs seed limit (suc k) (faults ++ new_entry ∷ [])
    placed_more = record {
      front = p.front ++ take d p.back;
      back = drop d p.back;
      merged = (p.merged ++ take d p.back) ++ new_entry ∷ [];
      old = p.old ∙ ap (λ (l : List Entry). p.front ++ l) (sym (take-append-drop d p.back)) ∙ sym (append_assoc p.front (take d p.back) (drop d p.back));
      new = script_is ∙ ap (λ (l : List Entry). inserted l q.cursor.entry new_entry) p.new ∙ inserted_behind p.merged p.back q.cursor.entry d new_entry (omega (arith, le)) ∙ sym (append_assoc (p.merged ++ take d p.back) (new_entry ∷ []) (drop d p.back));
      are = merged_other (p.front ++ take d p.back) faults (p.merged ++ take d p.back) new_entry (merged_first p.front faults p.merged (take d p.back) p.are);
      behind = behind_it;
    }

module _ (unique : SerialRunIsUnique) (determined : ScriptsAreDetermined) (local : ScriptsAreLocal) (O : Program) (S : Setting) (seed : ℕ) where
  pub placed : (from : ℕ) (faults : List Entry) (P : Program) → Storms O S seed from faults P → IsPlaced O P S.jobs seed S.steps from faults
  placed from faults P itself = record { front = []; back = O.script; merged = []; old = refl; new = refl; are = none; behind = λ T k c s low at not. omega arith }
  placed from faults P (further {from = start} {k = k} {faults = before} {P = R} {T = T} {f = f} comes s low q) =
      placed_more unique determined local O R P S.jobs seed S.steps S.every start k f T before s low q (placed start before R comes)

  pub merged_storm : (from : ℕ) (faults : List Entry) (P : Program) → Storms O S seed from faults P → AreMerged O.script faults P.script
  merged_storm from faults P comes =
      let p = placed from faults P comes in
      let m : AreMerged (p.front ++ p.back) faults (p.merged ++ p.back) = merged_first p.front faults p.merged p.back p.are in
      subst (λ (l : List Entry). AreMerged l faults P.script) (sym p.old) (subst (λ (l : List Entry). AreMerged (p.front ++ p.back) faults l) (sym p.new) m)
