-- What a transactor's next step would carry, one place further.
use Rattle.std.proofs.Common.{◌≡◌, ◌⊎◌, ◌↔◌, inl, inr, ⊎_elim, ℕ, suc, ◌<◌, ◌≤◌, Bool, true, false, cond, Option, Some, None, refl, sym, ap, ◌∙◌, subst, arith}
use Rattle.std.specs.Prelude.{◌||◌, option_map}
use Rattle.std.specs.Option.{option_map_or}
use Rattle.tau_points.specs.declared.point.Point.{Point}
use Rattle.tau_trace.specs.declared.step.Step.{Step}
use Rattle.tau_trace.specs.declared.step.Step.TheVariants.{Take}
use Rattle.tau_trace.specs.Steps.{actor, ends_turn, is_take, is_send}
use Rattle.tau_trace.specs.Run.{Run, step_at, ActsAt, Does}
use Rattle.tau_trace.specs.Numbering.{sent, IsPlaceOf, IsSendAt}
use Rattle.tau_trace.specs.Points.{point_at}
use Rattle.tau_trace.specs.Turns.{IsOpenTurn, HasOpenTurn}
use Rattle.tau_trace.proofs.Agreement.{origin_before}
use Rattle.tau_trace.proofs.Lists.{same_some}
use Rattle.tau_trace.proofs.Once.{origin_once}
use Rattle.tau_trace.proofs.Quiet.{acts}
use Rattle.tau_trace.proofs.Sequences.{cases_last}
use Rattle.tau_trace.proofs.TrackingLemmas.{turn_same, turn_begins, turn_ends, bounds, turn-on}
use Rattle.tau_past.specs.declared.carrying.Carrying.{Carrying}
use Rattle.tau_past.specs.Carried.{touches, Pending, touched, came, Carried, SentWith}
use Rattle.tau_past.specs.Tables.{CarriedFrom, TellsPoints, nothing, TellsTurn, IsSendPlaceOf}
use Rattle.tau_past.specs.TableSteps.{turn_after, carrying_of, send_place}
use Rattle.tau_past.proofs.PendingLemmas.{turn_back, pending_on, pending_taken}

pub does_not : (test : Step → Bool) (T : Run) (t k : ℕ) (s : Step) → step_at T k ≡ Some s → test s ≡ false → ¬ Does test T t k
does_not test T t k s e fails d =
    let same : d.step ≡ s = same_some (sym d.stands ∙ e) in
    let holds : test s ≡ true = sym (ap test same) ∙ d.passes in
    cc

pub does : (test : Step → Bool) (T : Run) (t k : ℕ) (s : Step) → step_at T k ≡ Some s → actor s ≡ Some t → test s ≡ true → Does test T t k
does test T t k s e by passes = record { step = s; stands = e; by = by; passes = passes }

touch-cases : (T : Run) (t k : ℕ) (q : Point) → ¬ Does bounds T t k → Pending T t (suc k) q → ((Does touches T t k) × (q ≡ point_at T t k)) ⊎ Pending T t k q
touch-cases T t k q none (touched {take = b} {m = m} {j = j} u l h d e) = ⊎_elim
    (λ (at : j ≡ k). inl (subst (Does touches T t) at d, e ∙ ap (point_at T t) at))
    (λ (less : j < k). inr (touched (turn_back T t k b m none u) l less d e))
    (cases_last j k h)
touch-cases T t k q none (came {take = b} {m = m} u o x p) = inr (came (turn_back T t k b m none u) o x p)

-- after a step that bounds no turn and touches nothing
pub pending_plain : (T : Run) (t k : ℕ) (q : Point) → ¬ Does bounds T t k → ¬ Does touches T t k → Pending T t (suc k) q ↔ Pending T t k q
pending_plain T t k q none quiet = (
  λ p. ⊎_elim (λ d. absurd (quiet d.0)) (λ r. r) (touch-cases T t k q none p),
  λ p. pending_on T t k q none p,
)

-- after a touching step of a turn
pub pending_touched : (T : Run) (t k : ℕ) (q : Point) → ¬ Does bounds T t k → Does touches T t k → HasOpenTurn T t k → Pending T t (suc k) q ↔ ((q ≡ point_at T t k) ⊎ Pending T t k q)
pending_touched T t k q none d turn = (
  λ p. ⊎_elim (λ c. inl c.1) (λ r. inr r) (touch-cases T t k q none p),
  λ c. ⊎_elim
      (λ e. touched (turn-on T t k turn.0 turn.1.0 none turn.1.1) turn.1.1.before (omega arith) d e)
      (λ p. pending_on T t k q none p) c,
)

-- what a step of t at k carries is what one would carry
pub carried_pending : (T : Run) (t k : ℕ) (q : Point) → ActsAt T t k → Carried T k q ↔ Pending T t k q
carried_pending T t k q a = (
  λ c. subst (λ u. Pending T u k q) (same_some (sym c.acts ∙ a)) c.pending,
  λ p. record { by = t; acts = a; pending = p },
)

has_turn : (T : Run) (t k : ℕ) (q : Point) → Pending T t k q → HasOpenTurn T t k
has_turn T t k q (touched {take = b} {m = m} u l h d e) = (b, (m, u))
has_turn T t k q (came {take = b} {m = m} u o x p) = (b, (m, u))

pub pending_idle : (T : Run) (t k : ℕ) (q : Point) → IsOpenTurn T t k None → ¬ Pending T t k q
pending_idle T t k q idle p = let h = has_turn T t k q p in idle h.0 h.1.0 h.1.1

-- what is told of one set of points is told of the same set
pub tells_same : (T : Run) (j k : ℕ) (P Q : Point → Type 0) (c : Carrying) → j ≤ k → ((q : Point) → Q q ↔ P q) → TellsPoints T j P c → TellsPoints T k Q c
tells_same T j k P Q c le same t = record {
  points = λ q. (λ x. (t.points q).0 ((same q).0 x), λ y. (same q).1 ((t.points q).1 y));
  earlier = λ i e. omega (arith, t.earlier i e);
}

tells-plain : (T : Run) (k t : ℕ) (o : Option Carrying) → ¬ Does bounds T t k → ¬ Does touches T t k → TellsTurn T k t o → TellsTurn T (suc k) t o
tells-plain T k t None none quiet h = turn_same T t k None none h
tells-plain T k t (Some c) none quiet h = (
  (h.0.0, turn_same T t k (Some h.0.0) none h.0.1),
  tells_same T k (suc k) (Pending T t k) (Pending T t (suc k)) c (omega arith) (λ q. pending_plain T t k q none quiet) h.1,
)

-- after a step of another transactor, or of nobody
pub tells_other : (T : Run) (k t : ℕ) (o : Option Carrying) → ¬ ActsAt T t k → TellsTurn T k t o → TellsTurn T (suc k) t o
tells_other T k t o not h = tells-plain T k t o (λ d. not (acts T t k d.step d.stands d.by)) (λ d. not (acts T t k d.step d.stands d.by)) h

tells-touched : (T : Run) (k t : ℕ) (own : Point) (o : Option Carrying) → ¬ Does bounds T t k → Does touches T t k → own ≡ point_at T t k → TellsTurn T k t o → TellsTurn T (suc k) t (option_map (λ c. record { touched = Some own; rest = Some k }) o)
tells-touched T k t own None none d e h = turn_same T t k None none h
tells-touched T k t own (Some c) none d e h = (
  (h.0.0, turn_same T t k (Some h.0.0) none h.0.1),
  record { points = points; earlier = λ j f. omega (arith, same_some f) },
) where
  here : ActsAt T t k
  here = acts T t k d.step d.stands d.by

  points : (q : Point) → Pending T t (suc k) q ↔ ((Some own ≡ Some q) ⊎ Carried T k q)
  points q =
      let step = pending_touched T t k q none d h.0 in
      let carried = carried_pending T t k q here in (
        λ p. ⊎_elim (λ f. inl (ap (λ (x : Point). Some x) (e ∙ sym f))) (λ r. inr (carried.1 r)) (step.0 p),
        λ s. step.1 (⊎_elim (λ f. inl (sym (same_some f) ∙ e)) (λ r. inr (carried.0 r)) s),
      )

tells-own : (T : Run) (k t : ℕ) (s : Step) (own : Point) (o : Option Carrying) → step_at T k ≡ Some s → actor s ≡ Some t → is_take s ≡ false → own ≡ point_at T t k → TellsTurn T k t o → (b c : Bool) → ends_turn s ≡ b → touches s ≡ c
    → TellsTurn T (suc k) t (cond b None (cond c (option_map (λ x. record { touched = Some own; rest = Some k }) o) o))
tells-own T k t s own o e by plain at h true c ends touch = turn_ends T t k s e by plain ends
tells-own T k t s own o e by plain at h false true ends touch = tells-touched T k t own o (does_not bounds T t k s e (ap (λ b. b || is_take s) ends ∙ plain)) (does touches T t k s e by touch) at h
tells-own T k t s own o e by plain at h false false ends touch = tells-plain T k t o (does_not bounds T t k s e (ap (λ b. b || is_take s) ends ∙ plain)) (does_not touches T t k s e touch) h

tells-taken : (T : Run) (k t m : ℕ) (origin : Option ℕ) → step_at T k ≡ Some (Take t m) → m < sent T k → IsSendPlaceOf T m origin → TellsTurn T (suc k) t (Some (record { touched = None; rest = origin }))
tells-taken T k t m origin e lt told = ((k, turn_begins T t k m e), record { points = points; earlier = earlier origin told }) where
  sent_with : (q : Point) (o : Option ℕ) → IsSendPlaceOf T m o → SentWith T m q ↔ CarriedFrom T o q
  sent_with q None f = (λ s. absurd (f s.place s.by s.origin s.send), λ n. absurd n)
  sent_with q (Some j) f = (
    λ s. subst (λ i. Carried T i q) (origin_once T s.place j s.by f.0.0 m s.origin f.0.1) s.carried,
    λ c. record { place = j; by = f.0.0; origin = f.0.1; send = f.1; carried = c },
  )

  points : (q : Point) → Pending T t (suc k) q ↔ ((None ≡ Some q) ⊎ CarriedFrom T origin q)
  points q =
      let taken = pending_taken T t k m q e in
      let same = sent_with q origin told in (
        λ p. inr (same.0 (taken.0 p)),
        λ s. taken.1 (⊎_elim (λ (f : None ≡ Some q). absurd (cc)) (λ c. same.1 c) s),
      )

  earlier : (o : Option ℕ) → IsSendPlaceOf T m o → (j : ℕ) → o ≡ Some j → j < suc k
  earlier None f j g = absurd (cc)
  earlier (Some i) f j g = omega (arith, origin_before T i f.0.0 m k f.0.1 lt, same_some g)

-- the place of a message's origin, where a Send stands there
pub send_told : (T : Run) (m i : ℕ) → IsPlaceOf T m (Some i) → IsSendPlaceOf T m (send_place T i)
send_told T m i f = by (option_map_or is_send (step_at T i) false) refl where
  by : (b : Bool) → option_map_or is_send (step_at T i) false ≡ b → IsSendPlaceOf T m (cond b (Some i) None)
  by true e = (f, e)
  by false e = λ j u o s.
      let here : IsSendAt T i = subst (IsSendAt T) (origin_once T j i u f.0 m o f.1) s in
      let both : false ≡ true = sym e ∙ here in
      cc

-- after a step of its own
pub tells_own : (T : Run) (k t : ℕ) (s : Step) (own : Point) (origin : Option ℕ) (o : Option Carrying) → step_at T k ≡ Some s → actor s ≡ Some t → own ≡ point_at T t k → ((m : ℕ) → s ≡ Take t m → (m < sent T k) × IsSendPlaceOf T m origin) → TellsTurn T k t o → TellsTurn T (suc k) t (turn_after s k own origin o)
tells_own T k t (Take u m) own origin o e by at told h =
    let same : u ≡ t = same_some by in
    let is : step_at T k ≡ Some (Take t m) = subst (λ w. step_at T k ≡ Some (Take w m)) same e in
    let f = told m (ap (λ w. Take w m) same) in
    tells-taken T k t m origin is f.0 f.1
tells_own T k t s own origin o e by at told h = tells-own T k t s own o e by refl at h (ends_turn s) (touches s) refl refl

-- what a step carries, by the turn of its transactor
pub tells_carried : (T : Run) (k t : ℕ) (o : Option Carrying) → ActsAt T t k → TellsTurn T k t o → TellsPoints T k (Carried T k) (carrying_of (Some o))
tells_carried T k t None a h = record {
  points = λ q. (λ c. absurd (pending_idle T t k q h ((carried_pending T t k q a).0 c)), λ s. ⊎_elim (λ (f : None ≡ Some q). absurd (cc)) (λ n. absurd n) s);
  earlier = λ j (f : None ≡ Some j). absurd (cc);
}
tells_carried T k t (Some c) a h = tells_same T k k (Pending T t k) (Carried T k) c (omega arith) (λ q. carried_pending T t k q a) h.1

pub tells_nobody : (T : Run) (k : ℕ) → ((t : ℕ) → ¬ ActsAt T t k) → TellsPoints T k (Carried T k) nothing
tells_nobody T k none = record {
  points = λ q. (λ c. absurd (none c.by c.acts), λ s. ⊎_elim (λ (f : None ≡ Some q). absurd (cc)) (λ n. absurd n) s);
  earlier = λ j (f : None ≡ Some j). absurd (cc);
}
