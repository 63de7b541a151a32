-- Turns and pending points, one step further.
use Rattle.std.proofs.Common.{◌≡◌, ◌⊎◌, ◌↔◌, inl, inr, ⊎_elim, ℕ, suc, ◌<◌, Bool, true, false, IsTrue, IsFalse, Some, refl, sym, ap, ◌∙◌, subst, arith}
use Rattle.std.specs.Prelude.{◌||◌}
use Rattle.tau_points.specs.declared.point.Point.{Point}
use Rattle.tau_trace.specs.declared.step.Step.{Step}
use Rattle.tau_trace.specs.declared.step.Step.TheVariants.{Take, Drop, Void, Get, Set, Skip, Send, New, Stabilize, Ask, Lose, Echo, Heed, Repeat}
use Rattle.tau_trace.specs.Steps.{ends_turn, is_take}
use Rattle.tau_trace.specs.Run.{Run, step_at, ActsAt, Does}
use Rattle.tau_trace.specs.Numbering.{IsOrigin}
use Rattle.tau_trace.specs.Points.{point_at}
use Rattle.tau_trace.specs.Turns.{Turn, HasOpenTurn}
use Rattle.tau_trace.proofs.Lists.{same_some}
use Rattle.tau_trace.proofs.Once.{origin_acts}
use Rattle.tau_trace.proofs.Quiet.{acts}
use Rattle.tau_trace.proofs.Sequences.{cases_last}
use Rattle.tau_trace.proofs.TrackingLemmas.{bounds, turn-on}
use Rattle.tau_past.specs.Carried.{touches, Pending, touched, came, SentWith}
use Rattle.tau_past.specs.KnownLaws.{KeepsTurns, KeepsPending, keeps_pending, TurnsAfterStep, PendingAfterStep}

touching_bounds_none : (s : Step) → IsTrue (touches s) → IsFalse (bounds s)
touching_bounds_none (Get t) h = refl
touching_bounds_none (Set t v) h = refl
touching_bounds_none (Skip t) h = refl
touching_bounds_none (Stabilize t) h = refl
touching_bounds_none (Ask t a) h = refl
touching_bounds_none s h = absurd (cc)

keeping_bounds_none : (s : Step) → IsTrue (keeps_pending s) → IsFalse (bounds s)
keeping_bounds_none (Send t u v) h = refl
keeping_bounds_none (New t b n v) h = refl
keeping_bounds_none (Drop t m) h = refl
keeping_bounds_none (Void t m) h = refl
keeping_bounds_none (Lose m) h = refl
keeping_bounds_none (Echo t m) h = refl
keeping_bounds_none (Heed t m) h = refl
keeping_bounds_none (Repeat m) h = refl
keeping_bounds_none s h = absurd (cc)

keeping_touches_none : (s : Step) → IsTrue (keeps_pending s) → IsFalse (touches s)
keeping_touches_none (Send t u v) h = refl
keeping_touches_none (New t b n v) h = refl
keeping_touches_none (Drop t m) h = refl
keeping_touches_none (Void t m) h = refl
keeping_touches_none (Lose m) h = refl
keeping_touches_none (Echo t m) h = refl
keeping_touches_none (Heed t m) h = refl
keeping_touches_none (Repeat m) h = refl
keeping_touches_none s h = absurd (cc)

does_not : (T : Run) (t k : ℕ) (test other : Step → Bool) → ((s : Step) → IsTrue (test s) → IsFalse (other s)) → Does test T t k → ¬ Does other T t k
does_not T t k test other none d e =
    let same : d.step ≡ e.step = same_some (sym d.stands ∙ e.stands) in
    let both : false ≡ true = sym (none d.step d.passes) ∙ ap other same ∙ e.passes in
    cc

idle : (T : Run) (t k : ℕ) (test : Step → Bool) → ¬ ActsAt T t k → ¬ Does test T t k
idle T t k test none d = none (acts T t k d.step d.stands d.by)

-- after a step that begins and ends no turn
pub turn_back : (T : Run) (t k place m : ℕ) → ¬ Does bounds T t k → Turn T t (suc k) place m → Turn T t k place m
turn_back T t k place m none u = record { before = earlier; takes = u.takes; goes_on = λ j a b d. u.goes_on j a (omega arith) d } where
  earlier : place < k
  earlier = ⊎_elim
      (λ (e : place ≡ k). absurd (none (record { step = Take t m; stands = subst (λ j. step_at T j ≡ Some (Take t m)) e u.takes; by = refl; passes = refl })))
      (λ l. l)
      (cases_last place k u.before)

keeps_turns : (T : Run) (t k : ℕ) → ¬ Does bounds T t k → KeepsTurns T t k
keeps_turns T t k none place m = (turn_back T t k place m none, turn-on T t k place m none)

-- after a Take
pub only_turn : (T : Run) (t k m place n : ℕ) → step_at T k ≡ Some (Take t m) → Turn T t (suc k) place n → (place ≡ k) × (n ≡ m)
only_turn T t k m place n e u = ⊎_elim
    (λ (at : place ≡ k). (at, same_message (same_some (sym u.takes ∙ ap (step_at T) at ∙ e))))
    (λ less. absurd (u.goes_on k less (omega arith) (record { step = Take t m; stands = e; by = refl; passes = refl })))
    (cases_last place k u.before) where
      same_message : Take t n ≡ Take t m → n ≡ m
      same_message h = cc

begun : (T : Run) (t k m : ℕ) → step_at T k ≡ Some (Take t m) → Turn T t (suc k) k m
begun T t k m e = record { before = omega arith; takes = e; goes_on = λ j a b. absurd (omega arith) }

-- after a step of an ending kind
ended : (T : Run) (t k place n : ℕ) → Does ends_turn T t k → ¬ Turn T t (suc k) place n
ended T t k place n d u = ⊎_elim
    (λ (at : place ≡ k). let same : Take t n ≡ d.step = same_some (sym u.takes ∙ ap (step_at T) at ∙ d.stands) in let both : false ≡ true = ap ends_turn same ∙ d.passes in cc)
    (λ less. u.goes_on k less (omega arith) (record { step = d.step; stands = d.stands; by = d.by; passes = ap (λ b. b || is_take d.step) d.passes }))
    (cases_last place k u.before)

pub turns_after_step : (T : Run) (t k : ℕ) → TurnsAfterStep T t k
turns_after_step T t k = record {
  other = λ none. keeps_turns T t k (idle T t k bounds none);
  take = λ m e place n. (only_turn T t k m place n e, λ is. subst (λ i. Turn T t (suc k) i n) (sym is.0) (subst (Turn T t (suc k) k) (sym is.1) (begun T t k m e)));
  ending = λ d place n. ended T t k place n d;
  touching = λ d. keeps_turns T t k (does_not T t k touches bounds touching_bounds_none d);
  keeping = λ d. keeps_turns T t k (does_not T t k keeps_pending bounds keeping_bounds_none d);
}

-- without an open turn nothing is pending
pub pending_turn : (T : Run) (t k : ℕ) (q : Point) → Pending T t k q → HasOpenTurn T t k
pending_turn T t k q (touched {take = b} {m = m} u l h d e) = (b, (m, u))
pending_turn T t k q (came {take = b} {m = m} u o x p) = (b, (m, u))

pub pending_on : (T : Run) (t k : ℕ) (q : Point) → ¬ Does bounds T t k → Pending T t k q → Pending T t (suc k) q
pending_on T t k q none (touched {take = b} {m = m} u l h d e) = touched (turn-on T t k b m none u) l (omega arith) d e
pending_on T t k q none (came {take = b} {m = m} u o x p) = came (turn-on T t k b m none u) o x p

-- what is pending after a step that begins and ends no turn was pending, or is the point of a touching step in a turn
pending_back : (T : Run) (t k : ℕ) (q : Point) → ¬ Does bounds T t k → Pending T t (suc k) q → Pending T t k q ⊎ (Does touches T t k × HasOpenTurn T t k × (q ≡ point_at T t k))
pending_back T t k q none (touched {take = b} {m = m} {j = j} u l h d e) = ⊎_elim
    (λ (at : j ≡ k). inr (subst (Does touches T t) at d, (b, (m, turn_back T t k b m none u)), e ∙ ap (point_at T t) at))
    (λ (less : j < k). inl (touched (turn_back T t k b m none u) l less d e))
    (cases_last j k h)
pending_back T t k q none (came {take = b} {m = m} u o x p) = inl (came (turn_back T t k b m none u) o x p)

kept_pending : (T : Run) (t k : ℕ) → ¬ Does bounds T t k → ¬ Does touches T t k → KeepsPending T t k
kept_pending T t k none quiet q = (λ p. ⊎_elim (λ r. r) (λ d. absurd (quiet d.0)) (pending_back T t k q none p), pending_on T t k q none)

pending_touching : (T : Run) (t k : ℕ) (q : Point) → ¬ Does bounds T t k → Does touches T t k → Pending T t (suc k) q ↔ (Pending T t k q ⊎ (HasOpenTurn T t k × (q ≡ point_at T t k)))
pending_touching T t k q none d = (
  λ p. ⊎_elim (λ r. inl r) (λ c. inr (c.1, c.2)) (pending_back T t k q none p),
  λ s. ⊎_elim (pending_on T t k q none) (λ c. touched (turn-on T t k c.0.0 c.0.1.0 none c.0.1.1) c.0.1.1.before (omega arith) d c.1) s,
)

pub pending_taken : (T : Run) (t k m : ℕ) (q : Point) → step_at T k ≡ Some (Take t m) → Pending T t (suc k) q ↔ SentWith T m q
pending_taken T t k m q e = (forth, back) where
  forth : Pending T t (suc k) q → SentWith T m q
  forth (touched {take = b} {m = n} {j = j} u l h d f) = absurd (omega (arith, (only_turn T t k m b n e u).0, l, h))
  forth (came {take = b} {m = n} {j = j} {by = by} u o x p) =
      record { place = j; by = by; origin = subst (IsOrigin T j by) (only_turn T t k m b n e u).1 o; send = x; carried = record { by = by; acts = origin_acts T j by n o; pending = p } }

  back : SentWith T m q → Pending T t (suc k) q
  back s =
      let same : s.carried.by ≡ s.by = same_some (sym s.carried.acts ∙ origin_acts T s.place s.by m s.origin) in
      came (begun T t k m e) s.origin s.send (subst (λ u. Pending T u s.place q) same s.carried.pending)

pub pending_after_step : (T : Run) (t k : ℕ) → PendingAfterStep T t k
pending_after_step T t k = record {
  other = λ none. kept_pending T t k (idle T t k bounds none) (idle T t k touches none);
  take = λ m e q. pending_taken T t k m q e;
  ending = λ d q p. let open_turn = pending_turn T t (suc k) q p in ended T t k open_turn.0 open_turn.1.0 d open_turn.1.1;
  touching = λ d q. pending_touching T t k q (does_not T t k touches bounds touching_bounds_none d) d;
  keeping = λ d. kept_pending T t k (does_not T t k keeps_pending bounds keeping_bounds_none d) (does_not T t k keeps_pending touches keeping_touches_none d);
}
