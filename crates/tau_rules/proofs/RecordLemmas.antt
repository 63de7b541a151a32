-- The records after one step more.
use Rattle.std.proofs.Common.{◌≡◌, ◌≢◌, ◌⊎◌, inl, inr, ⊎_elim, ℕ, zero, suc, ◌+◌, ◌<◌, ◌||◌, Bool, true, false, IsTrue, cond, Option, Some, None, List, [], ◌∷◌, length, refl, sym, ap, ◌∙◌, subst, arith}
use Rattle.std.proofs.lemmas.List.{length-append}
use Rattle.std.specs.Prelude.{slice_get, slice_set}
use Rattle.tau_value.specs.declared.shared.Value.{Value}
use Rattle.tau_value.specs.Value.{val_of}
use Rattle.tau_tree.specs.declared.programs.Program.{Program}
use Rattle.tau_trace.specs.declared.step.Step.{Step}
use Rattle.tau_trace.specs.declared.step.Step.TheVariants.{Take, Drop, Void, Get, Set, Skip, Send, New, Stabilize, Ask, Lose, Echo, Heed, Repeat}
use Rattle.tau_trace.specs.Steps.{actor, ends_turn, leaves_turns, is_new}
use Rattle.tau_trace.specs.Run.{Run, len, appended}
use Rattle.tau_trace.specs.Numbering.{born}
use Rattle.tau_trace.specs.Turns.{IsOpenTurn}
use Rattle.tau_trace.specs.Known.{WellFormed, MayFollow, IsKnownAt}
use Rattle.tau_trace.proofs.Lists.{same_some, slice_get-push_cases, slice_get-set_same, slice_get-set_other}
use Rattle.tau_trace.proofs.Agreement.{agree_appended, step_at-appended, born-same}
use Rattle.tau_trace.proofs.Indexing.{len-appended, born-next}
use Rattle.tau_past.specs.Carried.{touches}
use Rattle.tau_past.specs.KnownLaws.{KeepsTurns, keeps_pending}
use Rattle.tau_past.proofs.PendingLemmas.{turns_after_step}
use Rattle.tau_legal.specs.Choices.{goes_on}
use Rattle.tau_legal.specs.Turns.{HasValue}
use Rattle.tau_legal.specs.Fits.{Fits}
use Rattle.tau_legal.specs.Traces.{Fitting}
use Rattle.tau_legal.proofs.TraceLemmas.{below_length}
use Rattle.tau_rules.specs.declared.records.Record.{Record}
use Rattle.tau_rules.specs.declared.records.RecordChange.{RecordChange}
use Rattle.tau_rules.specs.declared.records.RecordChange.TheVariants as changes
use Rattle.tau_rules.specs.Records.{IsRecord, AreRecords, IsChanged, Changes, keeps_record, IsNewborn, with_newborn, HasChanged}
use Rattle.tau_rules.proofs.IdleLemmas.{ended_idle}
use Rattle.tau_rules.proofs.TurnLemmas.{record_kept, record_replied, record_ended, record_idle, record_begun, record_newborn}

-- how many transactors there are after a step
pub born_appended : (T : Run) (s : Step) → born (appended T s) (len (appended T s)) ≡ born T (len T) + cond (is_new s) 1 0
born_appended T s = ap (born (appended T s)) (len-appended T s) ∙ omega (arith, born-next (appended T s) (len T) s (step_at-appended T s), born-same (len T) (agree_appended T s))

-- a step with which a turn goes on touches, or changes nothing that is pending
touches_or_keeps : (s : Step) → IsTrue (goes_on s) → IsTrue (touches s) ⊎ IsTrue (keeps_pending s)
touches_or_keeps (Send t u v) h = inr refl
touches_or_keeps (New t b n v) h = inr refl
touches_or_keeps (Get t) h = inl refl
touches_or_keeps (Set t v) h = inl refl
touches_or_keeps (Skip t) h = inl refl
touches_or_keeps (Stabilize t) h = inl refl
touches_or_keeps (Ask t a) h = inl refl
touches_or_keeps s h = absurd (cc)

-- a step with which a turn goes on keeps the turns
keeps_turns : (T : Run) (t : ℕ) (s : Step) → actor s ≡ Some t → IsTrue (goes_on s) → KeepsTurns (appended T s) t (len T)
keeps_turns T t s by on = ⊎_elim touching keeping (touches_or_keeps s on) where
  touching : IsTrue (touches s) → KeepsTurns (appended T s) t (len T)
  touching h = (turns_after_step (appended T s) t (len T)).touching (record { step = s; stands = step_at-appended T s; by = by; passes = h })

  keeping : IsTrue (keeps_pending s) → KeepsTurns (appended T s) t (len T)
  keeping h = (turns_after_step (appended T s) t (len T)).keeping (record { step = s; stands = step_at-appended T s; by = by; passes = h })

-- a step that ends a turn keeps the record
pub ending_keeps : (s : Step) → IsTrue (ends_turn s) → IsTrue (keeps_record s)
ending_keeps s h = either (leaves_turns s) (ends_turn s) h where
  either : (a b : Bool) → IsTrue b → IsTrue (a || b)
  either true b h = refl
  either false b h = h

-- a step that keeps its transactor's record ends a turn, or is made where no turn is open
pub record IsIdleStep (T : Run) (t : ℕ) (s : Step) : Type 0 where
  pub keeping : IsTrue (keeps_pending s)
  pub idle : IsOpenTurn T t (len T) None

kept_by : (P : Program) (T : Run) (t : ℕ) (s : Step) → Fitting P T → Fits P T (len T) s → actor s ≡ Some t → IsTrue (keeps_record s) → IsTrue (ends_turn s) ⊎ IsIdleStep T t s
kept_by P T t (Drop u m) f fits by h = inr (record { keeping = refl; idle = subst (λ x. IsOpenTurn T x (len T) None) (same_some by) fits.0.idle })
kept_by P T t (Void u m) f fits by h = inr (record { keeping = refl; idle = subst (λ x. IsOpenTurn T x (len T) None) (same_some by) (ended_idle P T u (len T) f fits.0.ended) })
kept_by P T t (Lose m) f fits by h = absurd (cc)
kept_by P T t (Echo u m) f fits by h = inr (record { keeping = refl; idle = subst (λ x. IsOpenTurn T x (len T) None) (same_some by) (ended_idle P T u (len T) f fits.0.ended) })
kept_by P T t (Heed u m) f fits by h = inr (record { keeping = refl; idle = subst (λ x. IsOpenTurn T x (len T) None) (same_some by) fits.0.idle })
kept_by P T t (Repeat m) f fits by h = absurd (cc)
kept_by P T t s f fits by h = inl h

-- a step makes no transactor, or is a New with the record of its transactor
pub record IsBirth (s : Step) (found : Option Record) : Type 0 where
  pub by : ℕ
  pub behaviour : ℕ
  pub node : ℕ
  pub state : Value
  pub is : s ≡ New by behaviour node state
  pub newborn : Record
  pub found_is : found ≡ Some newborn
  pub same_behaviour : newborn.behaviour ≡ behaviour

birth_or_none : (s : Step) (found : Option Record) → IsNewborn s found → ((found ≡ None) × (is_new s ≡ false)) ⊎ IsBirth s found
birth_or_none (New t b n v) found h = inr (record { by = t; behaviour = b; node = n; state = v; is = refl; newborn = h.0; found_is = h.1; same_behaviour = h.2 })
birth_or_none s found h = inl (h, refl)

length-set : {A : Type 0} (xs : List A) (k : ℕ) (y : A) → length (slice_set xs k y) ≡ length xs
length-set [] k y = refl
length-set (x ∷ xs) zero y = refl
length-set (x ∷ xs) (suc k) y = ap suc (length-set xs k y)

same_or_other : (u t : ℕ) → (u ≡ t) ⊎ (u ≢ t)
same_or_other u t = grind arith

module _ (P : Program) (T : Run) (s : Step) (v : WellFormed T) (w : WellFormed (appended T s)) where
  -- the record of the transactor that makes the step
  own_record : (t : ℕ) (c : RecordChange) (r q : Record) → Fitting P T → MayFollow T s → Fits P T (len T) s → t < born T (len T) → actor s ≡ Some t → Changes P T s c → IsChanged c r q → IsRecord P T t r → IsRecord P (appended T s) t q
  own_record t (changes.Begins x) r q f may fits lt by c is h =
      let own : c.0 ≡ t = same_some (sym (ap actor c.2) ∙ by) in
      let takes : s ≡ Take t c.1 = c.2 ∙ ap (λ u. Take u c.1) own in
      let known : IsKnownAt T (len T) (Take t c.1) = subst (IsKnownAt T (len T)) takes may.known in
      record_begun P T s v w t c.1 r lt known.1 takes h q is.0 (subst (λ y. HasValue P T c.1 (val_of y)) (sym is.1) c.3) is.2
  own_record t (changes.Replied x) r q f may fits lt by c is h = record_replied P T s v w t r (val_of x) lt by (keeps_turns T t s by c.0) c.1 h q is.0 is.1 is.2
  own_record t changes.Kept r q f may fits lt by c is h = subst (IsRecord P (appended T s) t) (sym is) (⊎_elim ending idle (kept_by P T t s f fits by c)) where
    ending : IsTrue (ends_turn s) → IsRecord P (appended T s) t r
    ending e = record_ended P T s v w t r lt by e h

    idle : IsIdleStep T t s → IsRecord P (appended T s) t r
    idle i =
        let keeps = (turns_after_step (appended T s) t (len T)).keeping (record { step = s; stands = step_at-appended T s; by = by; passes = i.keeping }) in
        record_idle P T s v w t r lt keeps i.idle h

  -- the records of those who existed before
  pub record AreLater (rs : List Record) : Type 0 where
    pub count : length rs ≡ born T (len T)
    pub each : (u : ℕ) (x : Record) → slice_get rs u ≡ Some x → IsRecord P (appended T s) u x

  -- where nobody makes the step
  all_kept : (rs : List Record) → actor s ≡ None → AreRecords P T rs → AreLater rs
  all_kept rs none h = record {
    count = h.count;
    each = λ u x e. record_kept P T s v w u x (omega (arith, h.count, below_length rs u x e)) (nobody u) (h.each u x e);
  } where
    nobody : (u : ℕ) → actor s ≢ Some u
    nobody u a = let both : None ≡ Some u = sym none ∙ a in cc

  -- where transactor t does, all but its own are kept
  one_changed : (t : ℕ) (c : RecordChange) (rs : List Record) (r q : Record) → Fitting P T → MayFollow T s → Fits P T (len T) s → actor s ≡ Some t → Changes P T s c → slice_get rs t ≡ Some r → IsChanged c r q
      → AreRecords P T rs → AreLater (slice_set rs t q)
  one_changed t c rs r q f may fits by changes old is h = record {
    count = length-set rs t q ∙ h.count;
    each = λ u x e. by_place u x e (same_or_other u t);
  } where
    by_place : (u : ℕ) (x : Record) → slice_get (slice_set rs t q) u ≡ Some x → (u ≡ t) ⊎ (u ≢ t) → IsRecord P (appended T s) u x
    by_place u x e (inl same) =
        let below : t < length rs = below_length rs t r old in
        let at_t : slice_get (slice_set rs t q) t ≡ Some x = ap (slice_get (slice_set rs t q)) (sym same) ∙ e in
        let is_q : q ≡ x = same_some (sym (slice_get-set_same rs t q below) ∙ at_t) in
        subst (λ j. IsRecord P (appended T s) j x) (sym same) (subst (IsRecord P (appended T s) t) is_q (own_record t c r q f may fits (omega (arith, h.count, below)) by changes is (h.each t r old)))
    by_place u x e (inr other) =
        let before : slice_get rs u ≡ Some x = sym (slice_get-set_other rs t u q other) ∙ e in
        record_kept P T s v w u x (omega (arith, h.count, below_length rs u x before)) (λ a. other (same_some (sym a ∙ by))) (h.each u x before)

  all_later : (c : RecordChange) (rs mid : List Record) → Fitting P T → MayFollow T s → Fits P T (len T) s → Changes P T s c → (o : Option ℕ) → actor s ≡ o → HasChanged c o rs mid → AreRecords P T rs → AreLater mid
  all_later c rs mid f may fits changes None by h old = subst AreLater (sym h) (all_kept rs by old)
  all_later c rs mid f may fits changes (Some t) by h old = subst AreLater (sym h.is) (one_changed t c rs h.before h.after f may fits by changes h.stood h.changed old)

  -- with the record of the transactor that the step makes
  with_birth : (mid : List Record) (found : Option Record) → IsNewborn s found → AreLater mid → AreRecords P (appended T s) (with_newborn mid found)
  with_birth mid found h later = ⊎_elim none birth (birth_or_none s found h) where
    none : (found ≡ None) × (is_new s ≡ false) → AreRecords P (appended T s) (with_newborn mid found)
    none e = subst (λ o. AreRecords P (appended T s) (with_newborn mid o)) (sym e.0) (record {
      count = later.count ∙ omega (arith, born_appended T s, ap {B = ℕ} (λ b. cond b 1 0) e.1);
      each = later.each;
    })

    birth : IsBirth s found → AreRecords P (appended T s) (with_newborn mid found)
    birth b = subst (λ o. AreRecords P (appended T s) (with_newborn mid o)) (sym b.found_is) (record {
      count = omega (arith, length-append mid (b.newborn ∷ []), later.count, born_appended T s, ap {B = ℕ} (λ r. cond (is_new r) 1 0) b.is);
      each = λ u x e. ⊎_elim (later.each u x) (last u x) (slice_get-push_cases mid b.newborn x u e);
    }) where
      last : (u : ℕ) (x : Record) → (u ≡ length mid) × (b.newborn ≡ x) → IsRecord P (appended T s) u x
      last u x e = subst (λ j. IsRecord P (appended T s) j x) (sym (e.0 ∙ later.count)) (subst (IsRecord P (appended T s) (born T (len T))) e.1 (record_newborn P T s v w b.by b.behaviour b.node b.state b.newborn b.is b.same_behaviour))

  -- all records
  pub records_change : (c : RecordChange) (rs mid : List Record) (found : Option Record) → Fitting P T → MayFollow T s → Fits P T (len T) s → Changes P T s c → HasChanged c (actor s) rs mid → IsNewborn s found
      → AreRecords P T rs → AreRecords P (appended T s) (with_newborn mid found)
  records_change c rs mid found f may fits changes changed newborn h = with_birth mid found newborn (all_later c rs mid f may fits changes (actor s) refl changed h)
