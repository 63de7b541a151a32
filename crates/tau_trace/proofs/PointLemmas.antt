-- Points and fates of a run.
use Rattle.std.proofs.Common.{◌≡◌, ◌⊎◌, ◌↔◌, inl, inr, ⊎_elim, ℕ, zero, suc, ◌+◌, ◌<◌, ◌≤◌, Bool, true, false, cond, ltb, IsTrue, List, [], ◌∷◌, length, get_or, Option, Some, None, refl, sym, ap, ◌∙◌, subst, arith, ltb-true, lt-ltb}
use Rattle.std.specs.Prelude.{IsFalse, option_and_then}
use Rattle.tau_history.specs.Timeline.{Timeline, numbers, interval, Move, keep, stabilize, close, fall, moved, opening, newborn}
use Rattle.tau_history.specs.Order.{Precedes}
use Rattle.tau_history.specs.Fates.{IsOwn, IsClosed, IsFallen, IsStable}
use Rattle.tau_points.specs.declared.point.Point.{Point}
use Rattle.tau_trace.specs.Run.{Run, step_at, starts, ActsAt}
use Rattle.tau_trace.specs.Histories.{history, opened, move_at, Falls, Closes}
use Rattle.tau_trace.specs.Points.{point_at, Stabilizes, Leaves, MadeAt, IsOpeningPoint, IsUpTo, IsEarlier}
use Rattle.tau_trace.specs.Laws.{PointsGrowAt, FatesAreSteps}
use Rattle.tau_trace.proofs.Counted.{history_goes, history-zero, history-suc, opened-stable, closes_move, move_closes, stabilizes_move, move_stabilizes}
use Rattle.tau_trace.proofs.Fates as fates
use Rattle.tau_trace.proofs.Fates.{Stood}

pub chain : (T : Run) (t j k : ℕ) → j ≤ k → Precedes (history T t j) (history T t k)
chain T t = fates.precedes_later (history_goes T t)

leaves_move : (T : Run) (t k : ℕ) → Leaves T t k → (move_at T t k ≡ close) ⊎ (move_at T t k ≡ fall)
leaves_move T t k (inl c) = inl (closes_move T t k c)
leaves_move T t k (inr f) = inr f

stays_at : (T : Run) (t k : ℕ) (m : Move) → move_at T t k ≡ m → ¬ Leaves T t k → point_at T t (suc k) ≡ point_at T t k
stays_at T t k keep e not = ap (λ h. point t h) (history-suc T t k ∙ ap (λ m. moved m (history T t k)) e) where
  point : ℕ → Timeline → Point
  point t h = record { who = t; interval = interval h; incarnation = h.last }
stays_at T t k stabilize e not = ap (λ h. point t h) (history-suc T t k ∙ ap (λ m. moved m (history T t k)) e) where
  point : ℕ → Timeline → Point
  point t h = record { who = t; interval = interval h; incarnation = h.last }
stays_at T t k close e not = absurd (not (inl (move_closes T t k e)))
stays_at T t k fall e not = absurd (not (inr e))

pub points_grow : (T : Run) (t k : ℕ) → PointsGrowAt T t k
points_grow T t k = record {
  grows = λ j l. fates.up_to (history_goes T t) j k l;
  leaves = λ l. fates.earlier (history_goes T t) k (leaves_move T t k l);
  stays = λ n. stays_at T t k (move_at T t k) refl n;
}

pub no_return : (T : Run) (t j k l : ℕ) → j ≤ l → l < k → point_at T t j ≡ point_at T t k → ¬ Leaves T t l
no_return T t j k l p q e c = fates.no_return (history_goes T t) j k l p q (ap (λ x. x.interval) e) (ap (λ x. x.incarnation) e) (leaves_move T t l c)

module _ (T : Run) (q : Point) where
  -- a place at which P holds and the history stood at q, and the same in other words
  made : (P P' : ℕ → Type 0) → ((j : ℕ) → P j → P' j) → (k : ℕ) → Stood P (history T q.who) q.interval q.incarnation k → MadeAt P' T q k
  made P P' to k s = record {
    place = s.place;
    before = s.before;
    holds = to s.place s.holds;
    at_point = λ x. record { who = q.who; interval = s.own.interval_is x; incarnation = s.own.incarnation_is x };
  }

  stood : (P P' : ℕ → Type 0) → ((j : ℕ) → P j → P' j) → (k : ℕ) → MadeAt P T q k → Stood P' (history T q.who) q.interval q.incarnation k
  stood P P' to k s = record {
    place = s.place;
    before = s.before;
    holds = to s.place s.holds;
    own = record { interval_is = ap (λ p. p.interval) s.at_point; incarnation_is = ap (λ p. p.incarnation) s.at_point };
  }

  first_not_fallen : ¬ IsFallen (history T q.who 0) q.interval q.incarnation
  first_not_fallen p = by (ltb q.who (starts T)) (subst (λ h. IsFallen h q.interval q.incarnation) (history-zero T q.who) p) where
    at_two : (i n : ℕ) → i ≤ 1 → ¬ (n < get_or (0 ∷ 0 ∷ []) i 0)
    at_two zero n l b = omega (arith, b)
    at_two (suc zero) n l b = omega (arith, b)
    at_two (suc (suc i)) n l b = omega (arith, l)

    at_one : (i n : ℕ) → i ≤ 0 → ¬ (n < get_or (0 ∷ []) i 0)
    at_one zero n l b = omega (arith, b)
    at_one (suc i) n l b = omega (arith, l)

    by : (b : Bool) → ¬ IsFallen (cond b opening newborn) q.interval q.incarnation
    by true f = at_two q.interval q.incarnation f.within f.below_number
    by false f = at_one q.interval q.incarnation f.within f.below_number

  first_closed : IsClosed (history T q.who 0) q.interval q.incarnation → IsOpeningPoint T q
  first_closed p = by (ltb q.who (starts T)) refl (subst (λ h. IsClosed h q.interval q.incarnation) (history-zero T q.who) p) where
    at : (i n : ℕ) → i < 1 → n ≡ get_or (0 ∷ 0 ∷ []) i 0 → n ≡ 0
    at zero n l e = e
    at (suc i) n l e = absurd (omega arith)

    by : (b : Bool) → ltb q.who (starts T) ≡ b → IsClosed (cond b opening newborn) q.interval q.incarnation → IsOpeningPoint T q
    by true e c = record { is_start = ltb-true q.who (starts T) e; interval_is = omega (arith, c.below); incarnation_is = at q.interval q.incarnation c.below c.number }
    by false e c = absurd (omega (arith, c.below))

  opening_closed : IsOpeningPoint T q → IsClosed (history T q.who 0) q.interval q.incarnation
  opening_closed o =
      let is = history-zero T q.who ∙ ap (λ b. cond b opening newborn) (lt-ltb q.who (starts T) o.is_start) in
      subst (λ h. IsClosed h q.interval q.incarnation) (sym is) (record {
        below = omega (arith, o.interval_is);
        number = o.incarnation_is ∙ ap (λ i. get_or (0 ∷ 0 ∷ []) i 0) (sym o.interval_is);
      })

  pub fates_are_steps : (k : ℕ) → FatesAreSteps T q k
  unfolding stood
  fates_are_steps k =
      let goes = history_goes T q.who in
      let i = q.interval in
      let n = q.incarnation in
      record {
        fallen = (
          λ p. ⊎_elim (λ z. absurd (first_not_fallen z)) (λ s. made (λ j. move_at T q.who j ≡ fall) (Falls T q.who) (λ j e. e) k s) (fates.gathered goes (λ a. IsFallen a i n) fall i n (fates.fallen-moved i n) k p),
          λ m. fates.spread goes (λ a. IsFallen a i n) fall i n (fates.fallen-makes i n) (fates.fallen-keeps i n) k (stood (Falls T q.who) (λ j. move_at T q.who j ≡ fall) (λ j e. e) k m),
        );
        closed = (
          λ p. ⊎_elim (λ z. inl (first_closed z)) (λ s. inr (made (λ j. move_at T q.who j ≡ close) (Closes T q.who) (λ j e. move_closes T q.who j e) k s)) (fates.gathered goes (λ a. IsClosed a i n) close i n (fates.closed-moved i n) k p),
          λ m. ⊎_elim
              (λ o. fates.kept goes (λ a. IsClosed a i n) (fates.closed-keeps i n) 0 k (omega arith) (opening_closed o))
              (λ x. fates.spread goes (λ a. IsClosed a i n) close i n (fates.closed-makes i n) (fates.closed-keeps i n) k (stood (Closes T q.who) (λ j. move_at T q.who j ≡ close) (λ j e. closes_move T q.who j e) k x))
              m,
        );
        stable = λ p. made (λ j. move_at T q.who j ≡ stabilize) (Stabilizes T q.who) (λ j e. move_stabilizes T q.who j e) k (fates.stable_stands goes (ap (λ h. h.stable) (history-zero T q.who) ∙ opened-stable T q.who) k i n p);
        reached = λ m. fates.reached-not_ahead i n (history T q.who k) (fates.kept goes (fates.IsReached i n) (fates.reached-keeps i n) m.place k (omega (arith, m.before)) (fates.reached-own i n (history T q.who m.place) (stood (ActsAt T q.who) (ActsAt T q.who) (λ j e. e) k m).own));
        settled = λ m. fates.settled_later goes k i n (stood (Stabilizes T q.who) (λ j. move_at T q.who j ≡ stabilize) (λ j e. stabilizes_move T q.who j e) k m);
      }

pub stable_at : (T : Run) (t k : ℕ) → IsTrue (history T t k).stable ↔ MadeAt (Stabilizes T t) T (point_at T t k) k
stable_at T t k =
    let q = point_at T t k in
    let steps = fates_are_steps T q k in (
      λ s. steps.stable (record { own = record { interval_is = refl; incarnation_is = refl }; mode = s }),
      λ m. fates.stands_stable (history_goes T t) k (stood T q (Stabilizes T t) (λ j. move_at T t j ≡ stabilize) (λ j e. stabilizes_move T t j e) k m),
    )

pub never_stable : (T : Run) (t j k : ℕ) → Falls T t j → IsFalse (history T t j).stable → Stabilizes T t k → ¬ (point_at T t k ≡ point_at T t j)
never_stable T t j k f v s e = ⊎_elim before (λ x. ⊎_elim same after x) (cases k j) where
  cases : (a b : ℕ) → (a < b) ⊎ ((a ≡ b) ⊎ (b < a))
  cases a b = grind arith

  before : k < j → ⊥
  before l =
      let stable = (stable_at T t j).1 (record { place = k; before = l; holds = s; at_point = sym e }) in
      let both = sym stable ∙ v in
      cc

  same : k ≡ j → ⊥
  same l =
      let move = sym (stabilizes_move T t k s) ∙ ap (move_at T t) l ∙ f in
      cc

  after : j < k → ⊥
  after l = no_return T t j k j (omega arith) l (sym e) (inr f)
