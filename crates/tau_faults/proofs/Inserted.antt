-- What a script makes due that has one entry more, where it stands before the cursor's entry.
use Rattle.std.proofs.Common.{◌≡◌, ◌⊎◌, inl, inr, ⊎_elim, ◌↔◌, ℕ, zero, suc, ◌<◌, ◌≤◌, List, [], ◌∷◌, length, Option, Some, None, All, refl, sym, ◌∙◌, ap, subst, arith}
use Rattle.std.specs.Prelude.{slice_get}
use Rattle.std.proofs.lemmas.Bool.{cases_lt}
use Rattle.std.proofs.lemmas.Option.{slice_get_cases}
use Rattle.std.proofs.lemmas.List.Elements.{All-cons, All-nil}
use Rattle.tau_tree.specs.declared.entries.Entry.{Entry}
use Rattle.tau_tree.specs.declared.entries.Failure.{Failure}
use Rattle.tau_tree.specs.declared.programs.Program.{Program}
use Rattle.tau_trace.specs.declared.step.Step.{Step}
use Rattle.tau_trace.specs.declared.step.Step.TheVariants as steps
use Rattle.tau_trace.specs.Run.{Run}
use Rattle.tau_trace.proofs.Lists.{same_some}
use Rattle.tau_script.specs.declared.cursor.Cursor.{Cursor}
use Rattle.tau_script.specs.Cursors.{first_cursor, next_entry, moved_past_due, IsDueAs, IsRipe, IsPassedOver, PassesTo, rests, passes, IsDueAt, CursorAt}
use Rattle.tau_script.specs.Scripts.{IsDue}
use Rattle.tau_script.specs.Laws.{IsDetermined, ScriptsAreDetermined}
use Rattle.tau_revival.proofs.Revival.{PlaceOf, at_end, before, cursor_within, keeps, goes_on}
use Rattle.tau_faults.specs.Faults.{inserted, IsEffective, fails, loses, repeats}

pub get_inserted : (S : List Entry) (x : ℕ) (e : Entry) → x ≤ length S → slice_get (inserted S x e) x ≡ Some e
get_inserted [] zero e le = refl
get_inserted [] (suc x) e le = absurd (omega (arith, le))
get_inserted (d ∷ S) zero e le = refl
get_inserted (d ∷ S) (suc x) e le = get_inserted S x e (omega (arith, le))

-- a cursor past the first transactor stands at a ripe entry
passing_who : (S : List Entry) (T : Run) (k : ℕ) (c d : Cursor) → PassesTo S T k c d → (d.who ≡ 0) ⊎ (c ≡ d)
passing_who S T k c d (rests not) = inr refl
passing_who S T k c d (passes p more) = inl (by (passing_who S T k (next_entry c) d more)) where
  by : (d.who ≡ 0) ⊎ (next_entry c ≡ d) → d.who ≡ 0
  by (inl z) = z
  by (inr e) = sym (ap (λ (y : Cursor). y.who) e)

abbrev IsFirstOrRipe : List Entry → ℕ → Cursor → Type 0
IsFirstOrRipe S k c = (c.who ≡ 0) ⊎ ((e : Entry) × IsRipe S k c e)

moved_who : (S : List Entry) (T : Run) (k : ℕ) (s : Option Step) (c : Cursor) → IsDueAt S T k c s → IsFirstOrRipe S k c → IsFirstOrRipe S (suc k) (moved_past_due s c)
moved_who S T k None c due (inl z) = inl z
moved_who S T k None c due (inr r) = absurd (due r.0 r.1)
moved_who S T k (Some (steps.Lose m)) c due h = inl refl
moved_who S T k (Some (steps.Repeat m)) c due h = inl refl
moved_who S T k (Some s) c due h = inr (due.entry, record { stands = due.ripe.stands; ripe = omega (arith, due.ripe.ripe) })

pub first_or_ripe : (S : List Entry) (T : Run) (k : ℕ) (c : Cursor) → CursorAt S T k c → IsFirstOrRipe S k c
first_or_ripe S T zero c at = ⊎_elim (λ (z : c.who ≡ 0). inl z) (λ (e : first_cursor ≡ c). inl (sym (ap (λ (y : Cursor). y.who) e))) (passing_who S T 0 first_cursor c at)
first_or_ripe S T (suc k) c at =
    ⊎_elim
    (λ (z : c.who ≡ 0). inl z)
    (λ (e : at.0 ≡ c). subst (IsFirstOrRipe S (suc k)) (sym at.1.moved ∙ e) (moved_who S T k at.1.step at.1.before at.1.due (first_or_ripe S T k at.1.before at.1.stood)))
    (passing_who S T (suc k) at.0 c at.2)

-- a fault that does something isn't passed over
pub not_passed : (P : Program) (T : Run) (k : ℕ) (f : Failure) → IsEffective P T k f → ¬ IsDueAs T k 0 f None
not_passed P T k f (fails {t = t} low lives) none = omega (arith, none t lives)
not_passed P T k f (loses flies) none = none flies
not_passed P T k f (repeats v flies) none = none flies

module _ (law : ScriptsAreDetermined) (S : List Entry) (T : Run) (k : ℕ) (f : Failure) (c : Cursor) (at : CursorAt S T k c) (none : (e : Entry) → ¬ IsRipe S k c e) where
  abbrev new : Entry
  new = record { at = k; failure = f }

  place : PlaceOf S k c.entry c.entry
  place = elim ((slice_get_cases S c.entry).1) [
    | inl here ↦ elim (cases_lt k here.0.at) [
      | inl later ↦ before here.0 here.2 later refl
      | inr ripe ↦ absurd (none here.0 (record { stands = here.2; ripe = ripe }))
    ]
    | inr past ↦ at_end past.0 (omega (arith, past.0, cursor_within S T k c at))
  ]

  all_there : All (λ e. e.at ≡ k) (new ∷ [])
  all_there = All-cons (λ e. e.at ≡ k) (record { at = k; failure = f }) [] refl (All-nil (λ e. e.at ≡ k))

  -- before the fault's place both scripts make the same due
  pub same_below : (j : ℕ) (s : Option Step) → j < k → IsDue S T j s ↔ IsDue (inserted S c.entry new) T j s
  same_below = keeps S (record { at = k; failure = f } ∷ []) k c.entry c.entry place (omega arith) all_there T (λ j. law S T j) (λ j. law (inserted S c.entry (record { at = k; failure = f })) T j) c at refl

  who_first : c.who ≡ 0
  who_first = by (first_or_ripe S T k c at) where
    by : IsFirstOrRipe S k c → c.who ≡ 0
    by (inl z) = z
    by (inr r) = absurd (none r.0 r.1)

  stands_there : slice_get (inserted S c.entry new) c.entry ≡ Some new
  stands_there = get_inserted S c.entry (record { at = k; failure = f }) (cursor_within S T k c at)

  module _ (not : ¬ IsDueAs T k 0 f None) where
    as_fault : (e : Entry) (s : Option Step) → slice_get (inserted S c.entry new) c.entry ≡ Some e → IsDueAs T k c.who e.failure s → IsDueAs T k 0 f s
    as_fault e s is due =
        let same : e ≡ record { at = k; failure = f } = same_some (sym is ∙ stands_there) in
        subst (λ (n : ℕ). IsDueAs T k n f s) who_first (subst (λ (x : Entry). IsDueAs T k c.who x.failure s) same due)

    rests_there : ¬ IsPassedOver (inserted S c.entry new) T k c
    rests_there p = not (as_fault p.entry None p.ripe.stands p.not_due)

    -- there the cursor is the same, and the fault is due
    pub cursor_there : CursorAt (inserted S c.entry new) T k c
    cursor_there = goes_on S (record { at = k; failure = f } ∷ []) k c.entry c.entry place (omega arith) all_there T c c (omega arith) (omega arith) at (rests rests_there)

    pub due_there : (s : Step) × IsDue (inserted S c.entry new) T k (Some s) × IsDueAs T k 0 f (Some s)
    due_there = by there.step refl where
      there : IsDetermined (inserted S c.entry new) T k
      there = law (inserted S c.entry (record { at = k; failure = f })) T k

      by : (s : Option Step) → (law (inserted S c.entry (record { at = k; failure = f })) T k).step ≡ s → (s : Step) × IsDue (inserted S c.entry new) T k (Some s) × IsDueAs T k 0 f (Some s)
      by None is =
          let due = (there.step_is None).1 (sym is) in
          let same : due.cursor ≡ c = (there.cursor_is due.cursor).0 due.stands ∙ sym ((there.cursor_is c).0 cursor_there) in
          absurd (due.due (record { at = k; failure = f }) (record { stands = ap (λ (y : Cursor). slice_get (inserted S c.entry (record { at = k; failure = f })) y.entry) same ∙ stands_there; ripe = omega arith }))
      by (Some s) is =
          let due = (there.step_is (Some s)).1 (sym is) in
          let same : due.cursor ≡ c = (there.cursor_is due.cursor).0 due.stands ∙ sym ((there.cursor_is c).0 cursor_there) in
          let here = subst (λ (y : Cursor). IsDueAt (inserted S c.entry (record { at = k; failure = f })) T k y (Some s)) same due.due in
          (s, due, as_fault here.entry (Some s) here.ripe.stands here.due)
