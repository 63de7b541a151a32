-- Who is free stays so until it leaves its point.
use Rattle.std.proofs.Common.{◌≡◌, ◌⊎◌, ◌↔◌, inl, inr, ⊎_elim, ℕ, zero, suc, ◌<◌, Bool, true, false, not, IsTrue, [], ◌∷◌, Option, Some, None, sym, ap, ◌∙◌, subst, arith}
use Rattle.std.specs.Prelude.{slice_get, Contains, IsFalse}
use Rattle.std.specs.Bool.{OnTrue}
use Rattle.std.proofs.lemmas.Bool.{cases_eq}
use Rattle.tau_points.specs.declared.point.Point.{Point}
use Rattle.tau_points.proofs.Reach.{nested}
use Rattle.tau_trace.specs.declared.step.Step.{Step}
use Rattle.tau_trace.specs.declared.step.Step.TheVariants.{Fall}
use Rattle.tau_trace.specs.Run.{Run, ActsAt, len, step_at, appended}
use Rattle.tau_trace.specs.Numbering.{born}
use Rattle.tau_trace.specs.Histories.{history, Falls, IsFallingStep, by_fall, by_rollback, by_trap, by_fail}
use Rattle.tau_trace.specs.Points.{point_at, IsOpeningPoint}
use Rattle.tau_trace.specs.Known.{WellFormed}
use Rattle.tau_trace.proofs.Counted.{falls_falling}
use Rattle.tau_trace.proofs.Indexing.{len-appended}
use Rattle.tau_trace.proofs.Lists.{same_some}
use Rattle.tau_trace.proofs.PointLemmas.{points_grow, never_stable}
use Rattle.tau_past.specs.Decisions.{Free, FallsBy}
use Rattle.tau_past.specs.Heard.{Heard, HeardTogether}
use Rattle.tau_past.specs.Pasts.{Link, Everywhere, Past, Is, StabilizedIn}
use Rattle.tau_past.specs.Safety.{KeepsRules}
use Rattle.tau_past.proofs.Agreement.{point-same}
use Rattle.tau_past.proofs.HeardLemmas.{heard_grows}
use Rattle.tau_past.proofs.Known.{acts_known, hears_known, heard_before, heard_by_before, heard_closed}
use Rattle.tau_past.proofs.Safety.{known_in_past, whole_past, nothing_at_opening}
use Rattle.tau_versions.specs.Search.Logs as search
use Rattle.tau_versions.specs.Search.Numbered.{with_version}
use Rattle.tau_versions.specs.Search.Searching.{Finds, is_not_firm}
use Rattle.tau_versions.proofs.Deciding.{own_search_tells_freedom}
use Rattle.tau_heard.specs.declared.own.Own.{Own}
use Rattle.tau_heard.specs.declared.hearing.Hearing.{Hearing}
use Rattle.tau_heard.specs.Bounds.{last_number}
use Rattle.tau_heard.specs.Hears.{Hears, Knows}
use Rattle.tau_heard.proofs.Decisions.{few_numbers, search_bounds}
use Rattle.tau_heard.proofs.Places.{hears_is_local}
use Rattle.tau_verdicts.specs.Clean.{GoesOn}
use Rattle.tau_verdicts.specs.Doomed.{cleared}
use Rattle.tau_verdicts.specs.Freedom.{IsFree, AreFree, LeavesAtMost}
use Rattle.tau_verdicts.specs.Latest.{latest}
use Rattle.tau_verdicts.proofs.Doomed.{cleared_here, cleared_other}
use Rattle.tau_verdicts.proofs.Steps.{goes_before, goes_here}

-- what is heard together stands before the place of a Fall
together_before : (T : Run) (u k m : ℕ) → WellFormed T → step_at T k ≡ Some (Fall u m) → (j : ℕ) → HeardTogether T u k m j → j < k
together_before T u k m w e j h = ⊎_elim (heard_before T u k j w (acts_known T u k w acts)) (heard_by_before T m k j w (hears_known T m k w cc)) h where
  acts : ActsAt T u k
  acts = cc

module _ (T : Run) (w : WellFormed T) (rules : KeepsRules T) (t n : ℕ) (free : Free T t n) where
  abbrev me : Point
  me = point_at T t n

  settled : (q : Point) → Past T me q → StabilizedIn T (Heard T t n) q ⊎ IsOpeningPoint T q
  settled q r = (free q (whole_past T rules (Heard T t n) (heard_closed T t n) (point_at T t n) free q r)).settled

  volatile : (q : Point) (j : ℕ) → Past T me q → Falls T q.who j → q ≡ point_at T q.who j → IsFalse (history T q.who j).stable → ⊥
  volatile q j r f e v = ⊎_elim (λ s. never_stable T q.who j s.place f v s.stabilizes (sym s.at_point ∙ e)) (λ o. nothing_at_opening T q j o e) (settled q r)

  -- no step falls from a point of the past
  stands : (k j : ℕ) (q : Point) → j < k → Past T me q → Falls T q.who j → q ≡ point_at T q.who j → ⊥
  stands zero j q lt r f e = omega (arith, lt)
  stands (suc k) j q lt r f e = by (falls_falling T q.who j f) (λ i p l s g h. stands k i p (omega (arith, l, lt)) s g h) where
    by : IsFallingStep T q.who j → ((i : ℕ) (p : Point) → i < j → Past T me p → Falls T p.who i → p ≡ point_at T p.who i → ⊥) → ⊥
    by (by_rollback s) here = volatile q j r f e (rules.rollback q.who j s)
    by (by_trap s v) here = volatile q j r f e v
    by (by_fail s v) here = volatile q j r f e v
    by (by_fall {m = m} s) here = from (rules.fall q.who j m s) where
      from : FallsBy T q.who j m → ⊥
      from b = here b.fallen.place b.cause (together_before T q.who j m w s b.fallen.place b.fallen.held) past b.fallen.falls b.fallen.at_point where
        behind : Past T (point_at T q.who j) b.cause
        behind = known_in_past T (HeardTogether T q.who j m) (point_at T q.who j) b.cause b.in_past

        past : Past T me b.cause
        past = nested (Link T Everywhere) (Is me) (Is (point_at T q.who j)) (λ z h. subst (Past T me) (e ∙ sym h) r) b.cause behind

  -- so it is free one step later, where it stays
  pub free_stays : point_at T t (suc n) ≡ point_at T t n → Free T t (suc n)
  free_stays same q r = record {
    not_fallen = λ f. stands (suc f.place) f.place q (omega arith) past f.falls f.at_point;
    settled = ⊎_elim (λ s. inl (record { place = s.place; held = heard_grows T t n (suc n) (omega arith) s.place s.held; stabilizes = s.stabilizes; at_point = s.at_point })) (λ o. inr o) (settled q past);
  } where
    past : Past T me q
    past = let F : Point → Type 0 = λ p. Past T p q in subst F same (known_in_past T (Heard T t (suc n)) (point_at T t (suc n)) q r)

-- what is kept of freedom is right in the run with one step more
pub free_leads : (T : Run) (s : Step) (l : Option ℕ) (F : ℕ → Bool) → AreFree T (len T) F → LeavesAtMost T s l → AreFree (appended T s) (len (appended T s)) (cleared l false F)
free_leads T s l F are leaves = let G : ℕ → Type 0 = λ k. AreFree (appended T s) k (cleared l false F) in subst G (sym (len-appended T s)) later where
  kept : (o : Option ℕ) (t : ℕ) → IsTrue (cleared o false F t) → IsTrue (F t) × ((o ≡ Some t) → ⊥)
  kept None t e = (e, λ c. cc)
  kept (Some w) t e = ⊎_elim
      (λ same. absurd (let G : ℕ → Type 0 = λ v. cleared (Some w) false F v ≡ false in let clash : true ≡ false = sym e ∙ subst G (sym same) (cleared_here w false F) in cc))
      (λ ne. (sym (cleared_other w false F t ne) ∙ e, λ c. ne (sym (same_some c)))) (cases_eq t w)

  later : (V : Run) → GoesOn (appended T s) (suc (len T)) V → (t : ℕ) → IsTrue (cleared l false F t) → Free V t (suc (len T))
  later V go t e =
      let before = goes_before T s V go in
      let k = kept l t e in
      free_stays V go.known go.rules t (len T) (are V before t k.0) ((points_grow V t (len T)).stays (λ x. k.1 (leaves V before (goes_here T s V go) t x)))

-- who was found free is, however the run goes on
pub found_free : (T : Run) (h : Hearing) → Knows h T → WellFormed T → (t : ℕ) → t < born T (len T) → (x : Own) → slice_get h.own.items t ≡ Some x → (me : Point) → me ≡ point_at T t (len T) → (found : Bool)
    → (IsTrue found ↔ Finds is_not_firm h.logs.items (with_version me.who (latest h.logs.items me.who) x.numbers.numbers) (Contains (me ∷ []))) → OnTrue (not found) (IsFree T t)
found_free T h knows w t exists x kept me is true finds = tt
found_free T h knows w t exists x kept me is false finds = λ V go.
    let hears : Hears V (len T) h.logs.items h.own.items h.letters.items h.falls = hears_is_local T V (len T) h.logs.items h.own.items h.letters.items h.falls w go.known go.agree knows in
    let who : me.who ≡ t = ap (λ p. p.who) is in
    let last : latest h.logs.items t ≡ last_number h.logs.items t = omega (arith, few_numbers V (len T) h.logs.items t hears.logs_are, w.few_steps) in
    let mine : me ≡ point_at V t (len T) = is ∙ point-same t (len T) go.agree in
    let bounds = search_bounds V (Heard V t (len T)) (len T) t (last_number h.logs.items t) h.logs.items x.numbers.numbers (hears.each t x kept).heard in
    let F : ℕ → Type 0 = λ i. search.TellBounds V (Heard V t (len T)) (len T) h.logs.items (with_version t i x.numbers.numbers) in
    let numbers = with_version t (latest h.logs.items t) x.numbers.numbers in
    let told : search.IsTold V (Heard V t (len T)) (len T) h.logs.items numbers = record { well_formed = go.known; rules = go.rules; logs_are = hears.logs_are; numbers_tell = subst F (sym last) bounds } in
    let law = own_search_tells_freedom V t (len T) h.logs.items numbers (omega (arith, exists, hears.transactors, knows.transactors)) told in
    let G : ℕ → Type 0 = λ u. IsTrue false ↔ Finds is_not_firm h.logs.items (with_version u (latest h.logs.items u) x.numbers.numbers) (Contains (me ∷ [])) in
    let H : Point → Type 0 = λ p. ¬ Finds is_not_firm h.logs.items numbers (Contains (p ∷ [])) in
    let none : ¬ Finds is_not_firm h.logs.items numbers (Contains (me ∷ [])) = (λ f. let clash : false ≡ true = (subst G who finds).1 f in cc) in
    law.0 (subst H mine none)
