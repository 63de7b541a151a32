-- Tables of states, before the first step and after one more.
use Rattle.std.proofs.Common.{◌≡◌, ⊎_elim, ℕ, suc, ◌+◌, ◌<◌, ◌≤◌, Bool, true, false, cond, ltb, List, [], ◌∷◌, ◌++◌, length, map, set, Option, Some, None, refl, sym, ap, ◌∙◌, subst, arith, length-append, length-set, lt-ltb, ltb-true}
use Rattle.std.specs.Prelude.{slice_get, option_and_then}
use Rattle.std.specs.Option.{option_map, option_map_or}
use Rattle.std.proofs.lemmas.Option.{slice_get_within, slice_get-map}
use Rattle.std.proofs.lemmas.List.{length-map}
use Rattle.std.proofs.lemmas.Bool.{cases_eq}
use Rattle.tau_value.specs.declared.shared.Value.{Value}
use Rattle.tau_tree.specs.declared.starts.Start.{Start}
use Rattle.tau_history.specs.Timeline.{Timeline, interval, opening, newborn}
use Rattle.tau_trace.specs.declared.opening.Opening.{Opening}
use Rattle.tau_trace.specs.declared.step.Step.{Step}
use Rattle.tau_trace.specs.declared.step.Step.TheVariants.{New}
use Rattle.tau_trace.specs.Steps.{actor, is_new}
use Rattle.tau_trace.specs.Run.{Run, len, step_at, starts, appended}
use Rattle.tau_trace.specs.Numbering.{born, sent}
use Rattle.tau_trace.specs.Histories.{history, move_at, is_close}
use Rattle.tau_trace.specs.Points.{point_at}
use Rattle.tau_trace.specs.Known.{MayFollow, WellFormed}
use Rattle.tau_trace.proofs.Counts.{count-zero, count-le}
use Rattle.tau_trace.proofs.Counted.{history-zero, counted}
use Rattle.tau_trace.proofs.Lists.{same_some, slice_get-set_same, slice_get-set_other, slice_get-push_cases}
use Rattle.tau_trace.proofs.Sequences.{cases_last}
use Rattle.tau_trace.proofs.Quiet.{IsQuiet, quiet_history, quiet_end, known_actor, unborn_quiet, acts}
use Rattle.tau_trace.proofs.Agreement.{agree_appended, step_at-appended, born-same}
use Rattle.tau_trace.proofs.Indexing.{len-appended, born-next}
use Rattle.tau_past.specs.States.{SavedWith, at_opening}
use Rattle.tau_states.specs.declared.state_record.StateRecord.{StateRecord}
use Rattle.tau_states.specs.Opening.{opening_states}
use Rattle.tau_states.specs.Effects.{started, created, record_after, noted_at, noted_of, records_after}
use Rattle.tau_states.specs.Table.{IsGiven, Describes, Holds, opened_run, Advances}
use Rattle.tau_states.proofs.Points.{at_base}
use Rattle.tau_states.proofs.Agreement.{describes_same}
use Rattle.tau_states.proofs.Stepping.{describes_own, describes_other}

abbrev one_if : Bool → ℕ
one_if b = cond b 1 0

pub one_at_most : (b : Bool) → one_if b ≤ 1
one_at_most true = omega arith
one_at_most false = omega arith

abbrev opening_record : Start → StateRecord
opening_record s = started s.state

-- a start before the first step
opening_describes : (o : Opening) (starts : List Start) (t : ℕ) (s : Start) → length o.names ≡ length starts → slice_get starts t ≡ Some s → Describes (opened_run o) (opening_states starts) t 0 (started s.state)
opening_describes o starts t s count e =
    let T = opened_run o in
    let below : t < length o.names = omega (arith, slice_get_within starts t s e, count) in
    let here : history T t 0 ≡ opening = history-zero T t ∙ ap (λ b. cond b opening newborn) (lt-ltb t (length o.names) below) in
    let saved : SavedWith T (opening_states starts) t 0 s.state = at_opening below refl (slice_get-map (λ x. x.state) starts t ∙ ap (option_map (λ x. x.state)) e) in
    record {
      interval = ap interval (sym here);
      stable = ap (λ h. h.stable) (sym here);
      ended = (λ z. absurd (cc), λ z. absurd (omega (arith, z.before)));
      state = at_base T (opening_states starts) (point_at T t 0) 0 1 s.state saved (ap interval here) (λ j a b. absurd (omega arith));
      base = saved;
    }

pub holds_opened : (o : Opening) (starts : List Start) → length o.names ≡ length starts → Holds (opened_run o) (opening_states starts) (map opening_record starts)
holds_opened o starts count = record {
  count = omega (arith, length-map starts opening_record, count, count-zero (λ j. option_map_or is_new (step_at (opened_run o) j) false));
  each = λ t r e. by t r (slice_get starts t) refl (sym (slice_get-map opening_record starts t) ∙ e);
} where
  by : (t : ℕ) (r : StateRecord) (x : Option Start) → slice_get starts t ≡ x → option_map opening_record x ≡ Some r → Describes (opened_run o) (opening_states starts) t 0 r
  by t r None f g = absurd (cc)
  by t r (Some s) f g = let P : StateRecord → Type 0 = λ x. Describes (opened_run o) (opening_states starts) t 0 x in subst P (same_some g) (opening_describes o starts t s count f)

-- the record of a transactor after a step: its own record noted, or as it was
data NotedCase (s : Step) (rs : List StateRecord) (o : Option ℕ) (t : ℕ) (r : StateRecord) : Type 0 where
  own : o ≡ Some t → (q : StateRecord) → slice_get rs t ≡ Some q → record_after s q ≡ r → NotedCase s rs o t r
  other : ¬ (o ≡ Some t) → slice_get rs t ≡ Some r → NotedCase s rs o t r

noted-cases : (s : Step) (rs : List StateRecord) (o : Option ℕ) (t : ℕ) (r : StateRecord) → slice_get (noted_of s rs o) t ≡ Some r → NotedCase s rs o t r
noted-cases s rs None t r e = other (λ f. cc) e
noted-cases s rs (Some u) t r e = by (slice_get rs u) refl e where
  by : (o : Option StateRecord) → slice_get rs u ≡ o → slice_get (noted_at s rs u o) t ≡ Some r → NotedCase s rs (Some u) t r
  by None f g = other (λ x. let both = sym g ∙ ap (slice_get rs) (sym (same_some x)) ∙ f in cc) g
  by (Some q) f g = ⊎_elim
      (λ (x : t ≡ u). own (ap Some (sym x)) q (ap (slice_get rs) x ∙ f) (same_some (sym (slice_get-set_same rs u (record_after s q) (slice_get_within rs u q f)) ∙ ap (slice_get (set rs u (record_after s q))) (sym x) ∙ g)))
      (λ ne. other (λ x. ne (sym (same_some x))) (sym (slice_get-set_other rs u t (record_after s q) ne) ∙ g))
      (cases_eq t u)

length-noted : (s : Step) (rs : List StateRecord) (o : Option ℕ) → length (noted_of s rs o) ≡ length rs
length-noted s rs None = refl
length-noted s rs (Some t) = by (slice_get rs t) where
  by : (o : Option StateRecord) → length (noted_at s rs t o) ≡ length rs
  by None = refl
  by (Some r) = length-set rs t (record_after s r)

few_intervals : (T : Run) (t k : ℕ) → k < 1000000 → interval (history T t k) < 2000000
few_intervals T t k l = omega (arith, (counted T t k).interval_is, count-le (λ j. is_close (move_at T t j)) k, one_at_most (ltb t (starts T)))

module _ (T : Run) (s : Step) (opening : List Value) (rs : List StateRecord) (may : MayFollow T s) (h : Holds T opening rs) where
  born_after : born (appended T s) (len (appended T s)) ≡ born T (len T) + one_if (is_new s)
  born_after = omega (arith, ap (born (appended T s)) (len-appended T s), born-next (appended T s) (len T) s (step_at-appended T s), born-same (len T) (agree_appended T s))

  before : (t : ℕ) (r : StateRecord) → slice_get rs t ≡ Some r → Describes (appended T s) opening t (len T) r
  before t r e = describes_same T (appended T s) opening (agree_appended T s) t r (h.each t r e)

  own_after : (t : ℕ) (r : StateRecord) → slice_get rs t ≡ Some r → actor s ≡ Some t → Describes (appended T s) opening t (suc (len T)) (record_after s r)
  own_after t r e by = describes_own (appended T s) opening t (len T) r s (few_intervals (appended T s) t (len T) may.few_steps) (step_at-appended T s) by (before t r e)

  other_after : (t : ℕ) (r : StateRecord) → slice_get rs t ≡ Some r → ¬ (actor s ≡ Some t) → Describes (appended T s) opening t (suc (len T)) r
  other_after t r e not = describes_other (appended T s) opening t (len T) r s (step_at-appended T s) not (before t r e)

  at_end : (t : ℕ) (r : StateRecord) → Describes (appended T s) opening t (suc (len T)) r → Describes (appended T s) opening t (len (appended T s)) r
  at_end t r d = let P : ℕ → Type 0 = λ k. Describes (appended T s) opening t k r in subst P (sym (len-appended T s)) d

  holds_noted : is_new s ≡ false → Holds (appended T s) opening (noted_of s rs (actor s))
  holds_noted not = record {
    count = omega (arith, length-noted s rs (actor s), h.count, born_after, ap one_if not);
    each = λ t r e. at_end t r (by t r (noted-cases s rs (actor s) t r e));
  } where
    by : (t : ℕ) (r : StateRecord) → NotedCase s rs (actor s) t r → Describes (appended T s) opening t (suc (len T)) r
    by t r (own a q f g) = let P : StateRecord → Type 0 = λ x. Describes (appended T s) opening t (suc (len T)) x in subst P g (own_after t q f a)
    by t r (other n f) = other_after t r f n

abbrev opened_by : Bool → Timeline
opened_by b = cond b opening newborn

not_below : (a b : ℕ) → b ≤ a → ltb a b ≡ false
not_below a b n = by (ltb a b) refl where
  by : (x : Bool) → ltb a b ≡ x → x ≡ false
  by true e = absurd (omega (arith, ltb-true a b e))
  by false e = refl

-- the transactor that a New makes
new_describes : (T : Run) (opening : List Value) (by b n : ℕ) (v : Value) → WellFormed T → MayFollow T (New by b n v) → Describes (appended T (New by b n v)) opening (born T (len T)) (suc (len T)) (created v v)
new_describes T opening by b n v w may = record {
  interval = ap interval (sym here);
  stable = ap (λ h. h.stable) (sym here);
  ended = (λ z. absurd (cc), λ z. absurd (quiet_end U u (suc (len T)) quiet z.place z.before z.ends));
  state = at_base U opening (point_at U u (suc (len T))) (suc (len T)) 0 v given (ap interval here) (λ j a l d. absurd (quiet j l (acts U u j d.step d.stands d.by)));
  base = given;
} where
  U : Run
  U = appended T (New by b n v)

  u : ℕ
  u = born T (len T)

  quiet : IsQuiet (appended T (New by b n v)) (born T (len T)) (suc (len T))
  quiet j l a = ⊎_elim
      (λ (x : j ≡ len T). let known = known_actor T.opening (born T (len T)) (sent T (len T)) (born T (len T)) (New by b n v) may.known (sym (ap (option_and_then actor) (step_at-appended T (New by b n v))) ∙ ap (λ i. option_and_then actor (step_at (appended T (New by b n v)) i)) (sym x) ∙ a) in omega (arith, known))
      (λ c. unborn_quiet T (born T (len T)) (len T) w.known (omega arith) j c (ap (option_and_then actor) ((agree_appended T (New by b n v)).steps j c) ∙ a))
      (cases_last j (len T) l)

  here : history (appended T (New by b n v)) (born T (len T)) (suc (len T)) ≡ newborn
  here = quiet_history (appended T (New by b n v)) (born T (len T)) (suc (len T)) quiet ∙ history-zero (appended T (New by b n v)) (born T (len T)) ∙ ap opened_by (not_below (born T (len T)) (starts T) (omega arith))

  given : IsGiven (appended T (New by b n v)) (born T (len T)) v
  given = record {
    place = len T;
    by = by;
    birth = record { behaviour = b; node = n; state = v; stands = step_at-appended T (New by b n v); made = born-same (len T) (agree_appended T (New by b n v)) };
    is = refl;
  }

holds_new : (T : Run) (opening : List Value) (rs : List StateRecord) (by b n : ℕ) (v : Value) → WellFormed T → MayFollow T (New by b n v) → Holds T opening rs → Holds (appended T (New by b n v)) opening (rs ++ created v v ∷ [])
holds_new T opening rs u b n v w may h = record {
  count = omega (arith, length-append rs (created v v ∷ []), h.count, born_after T (New u b n v) opening rs may h);
  each = λ t r e. at_end T (New u b n v) opening rs may h t r (⊎_elim (old t r) (new t r) (slice_get-push_cases rs (created v v) r t e));
} where
  old : (t : ℕ) (r : StateRecord) → slice_get rs t ≡ Some r → Describes (appended T (New u b n v)) opening t (suc (len T)) r
  old t r e = ⊎_elim
      (λ (x : t ≡ u). own_after T (New u b n v) opening rs may h t r e (ap Some (sym x)))
      (λ ne. other_after T (New u b n v) opening rs may h t r e (λ x. ne (sym (same_some x))))
      (cases_eq t u)

  new : (t : ℕ) (r : StateRecord) → (t ≡ length rs) × (created v v ≡ r) → Describes (appended T (New u b n v)) opening t (suc (len T)) r
  new t r p =
      let is : born T (len T) ≡ t = omega (arith, p.0, h.count) in
      let P : ℕ → Type 0 = λ x. Describes (appended T (New u b n v)) opening x (suc (len T)) r in
      let Q : StateRecord → Type 0 = λ x. Describes (appended T (New u b n v)) opening (born T (len T)) (suc (len T)) x in
      subst P is (subst Q p.1 (new_describes T opening u b n v w may))

holds_after : (T : Run) (s : Step) (opening : List Value) (rs : List StateRecord) → WellFormed T → MayFollow T s → Holds T opening rs → Holds (appended T s) opening (records_after s rs)
holds_after T (New u b n v) opening rs w may h = holds_new T opening rs u b n v w may h
holds_after T s opening rs w may h = holds_noted T s opening rs may h refl

pub advances : (s : Step) (rs new : List StateRecord) → new ≡ records_after s rs → Advances s rs new
advances s rs new e T opening w may h = subst (Holds (appended T s) opening) (sym e) (holds_after T s opening rs w may h)
