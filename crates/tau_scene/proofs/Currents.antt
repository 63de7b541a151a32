-- The state at which a transactor is, step by step.
use Rattle.std.proofs.Common.{◌≡◌, inl, inr, ⊎_elim, ℕ, suc, ◌<◌, ◌≤◌, Option, Some, None, refl, sym, ap, ◌∙◌, subst, arith}
use Rattle.tau_history.specs.Timeline.{fall}
use Rattle.tau_points.specs.declared.point.Point.{Point}
use Rattle.tau_trace.specs.declared.step.Step.{Step}
use Rattle.tau_trace.specs.declared.step.Step.TheVariants.{Stabilize}
use Rattle.tau_trace.specs.Steps.{actor}
use Rattle.tau_trace.specs.Run.{Run, len, step_at, starts, ActsAt}
use Rattle.tau_trace.specs.Known.{WellFormed}
use Rattle.tau_trace.specs.Places.{IsLeastFrom}
use Rattle.tau_trace.specs.Numbering.{IsNew}
use Rattle.tau_trace.specs.Histories.{history, Falls, EndsAt}
use Rattle.tau_trace.specs.Points.{point_at, Leaves, Stabilizes}
use Rattle.tau_trace.proofs.Lists.{same_some}
use Rattle.tau_trace.proofs.Moves.{own_move}
use Rattle.tau_trace.proofs.PointLemmas.{no_return}
use Rattle.tau_trace.proofs.Quiet.{acts}
use Rattle.tau_scene.specs.declared.timelines.states.State.{State}
use Rattle.tau_scene.specs.Timelines.States.{Begins, opens, created, leaves, until, IsState}
use Rattle.tau_scene.specs.Timelines.Inner.Courses.{begun, stable_with, after, ended, IsLast}
use Rattle.tau_scene.proofs.Beginnings.{cases_lt, at_or_under, acts_within, leaves_acts, first_of_start, first_of_created, acts_begun, stays_from}

-- the least place, with one place more
pub least_next : (a k : ℕ) (P : ℕ → Type 0) (o : Option ℕ) → ¬ P k → IsLeastFrom a P k o → IsLeastFrom a P (suc k) o
least_next a k P None none h = λ j ge lt p. ⊎_elim (λ e. none (subst P e p)) (λ l. h j ge l p) (at_or_under j k lt)
least_next a k P (Some i) none h = (h.0, omega (arith, h.1), h.2, h.3)

least_found : (a k : ℕ) (P : ℕ → Type 0) → a ≤ k → P k → IsLeastFrom a P k None → IsLeastFrom a P (suc k) (Some k)
least_found a k P le p h = (le, omega arith, p, λ j ge lt. h j ge lt)

pub least_once : (a n : ℕ) (P : ℕ → Type 0) (o q : Option ℕ) → IsLeastFrom a P n o → IsLeastFrom a P n q → o ≡ q
least_once a n P None None x y = refl
least_once a n P None (Some j) x y = absurd (x j y.0 y.1 y.2)
least_once a n P (Some i) None x y = absurd (y i x.0 x.1 x.2)
least_once a n P (Some i) (Some j) x y = ap Some (same i j x y) where
  same : (i j : ℕ) → IsLeastFrom a P n (Some i) → IsLeastFrom a P n (Some j) → i ≡ j
  same i j x y = ⊎_elim (λ l. absurd (y.3 i x.0 l x.2)) (λ ge. ⊎_elim (λ l. absurd (x.3 j y.0 l y.2)) (λ le. omega (arith, ge, le)) (cases_lt j i)) (cases_lt i j)

-- the first Stabilize, with a step of the transactor's own
stabilizes_step : (T : Run) (t k : ℕ) (s : Step) → step_at T k ≡ Some s → Stabilizes T t k → s ≡ Stabilize t
stabilizes_step T t k s e h = same_some (sym e ∙ h)

pub stable_next : (T : Run) (t b k : ℕ) (o : Option ℕ) (s : Step) → step_at T k ≡ Some s → actor s ≡ Some t → b ≤ k → IsLeastFrom b (Stabilizes T t) k o → IsLeastFrom b (Stabilizes T t) (suc k) (stable_with o s k)
stable_next T t b k (Some j) s e by le h = (h.0, omega (arith, h.1), h.2, h.3)
stable_next T t b k None (Stabilize u) e by le h = least_found b k (Stabilizes T t) le (e ∙ ap (λ x. Some (Stabilize x)) (same_some by)) h
stable_next T t b k None s e by le h = least_next b k (Stabilizes T t) None (λ x. let f = stabilizes_step T t k s e x in cc) h

-- the step by which a point is left is no Stabilize
falls_no_stabilize : (T : Run) (t u k : ℕ) → step_at T k ≡ Some (Stabilize u) → Falls T t k → ⊥
falls_no_stabilize T t u k e f =
    let own = own_move t (history T t k).stable (step_at T k) fall (λ x. cc) f in
    let same : own.step ≡ Stabilize u = same_some (sym own.stands ∙ e) in
    let moves = own.moves in
    cc

leaves_no_stabilize : (T : Run) (t u k : ℕ) → step_at T k ≡ Some (Stabilize u) → Leaves T t k → ⊥
leaves_no_stabilize T t u k e (inl c) = cc
leaves_no_stabilize T t u k e (inr f) = falls_no_stabilize T t u k e f

leaving_keeps : (T : Run) (t k : ℕ) (o : Option ℕ) (s : Step) → step_at T k ≡ Some s → Leaves T t k → stable_with o s k ≡ o
leaving_keeps T t k (Some j) s e l = refl
leaving_keeps T t k None (Stabilize u) e l = absurd (leaves_no_stabilize T t u k e l)
leaving_keeps T t k None s e l = refl

module _ (T : Run) (w : WellFormed T) where
  -- the first states
  pub last_start : (t : ℕ) → t < starts T → IsLast T 0 (begun (record { who = t; interval = 1; incarnation = 0 }) 0)
  last_start t l = record {
    begins = opens l;
    within = omega arith;
    point_is = first_of_start T t l;
    stays = λ j ge lt x. absurd (omega (arith, lt));
    lasts = refl;
    stable = λ j ge lt x. absurd (omega (arith, lt));
    made = (λ h. absurd (cc), λ p. absurd (omega (arith, p.2)));
  }

  fresh : (t b : ℕ) (p : Point) → p.who ≡ t → Begins T t b → p ≡ point_at T t b → IsLast T b (begun p b)
  fresh t b p e begins is = record {
    begins = subst (λ (x : ℕ). Begins T x b) (sym e) begins;
    within = omega arith;
    point_is = is ∙ ap (λ x. point_at T x b) (sym e);
    stays = λ j ge lt x. absurd (omega (arith, ge, lt));
    lasts = refl;
    stable = λ j ge lt x. absurd (omega (arith, ge, lt));
    made = (λ h. absurd (cc), λ q. absurd (omega (arith, q.1, q.2)));
  }

  pub last_new : (t j by : ℕ) → IsNew T j by t → IsLast T (suc j) (begun (record { who = t; interval = 0; incarnation = 0 }) (suc j))
  last_new t j by n = fresh t (suc j) (record { who = t; interval = 0; incarnation = 0 }) refl (created n) (first_of_created T w t j by n)

  pub last_left : (t k : ℕ) (p : Point) → p.who ≡ t → Leaves T t k → ((e : ℕ) → e ≤ k → ¬ EndsAt T t e) → p ≡ point_at T t (suc k) → IsLast T (suc k) (begun p (suc k))
  last_left t k p e l never is = fresh t (suc k) p e (leaves l never) is

  -- a step of another
  pub last_idle : (k : ℕ) (s : State) → ¬ ActsAt T s.point.who k → IsLast T k s → IsLast T (suc k) s
  last_idle k s none h = record {
    begins = h.begins;
    within = omega (arith, h.within);
    point_is = h.point_is;
    stays = λ j ge lt x. ⊎_elim (λ e. none (subst (ActsAt T s.point.who) e (leaves_acts T s.point.who j x))) (λ l. h.stays j ge l x) (at_or_under j k lt);
    lasts = h.lasts;
    stable = least_next s.begin k (Stabilizes T s.point.who) s.stable (λ x. none (acts T s.point.who k (Stabilize s.point.who) x refl)) h.stable;
    made = (
      λ m. let p = h.made.0 m in (p.0, p.1, omega (arith, p.2), p.3),
      λ p. h.made.1 (⊎_elim (λ e. absurd (none (subst (ActsAt T s.point.who) e p.3))) (λ l. (p.0, p.1, l, p.3)) (at_or_under p.0 k p.2)),
    );
  }

  -- a step of its own that doesn't leave the point
  pub last_after : (k : ℕ) (s : State) (x : Step) → step_at T k ≡ Some x → actor x ≡ Some s.point.who → ¬ Leaves T s.point.who k → IsLast T k s → IsLast T (suc k) (after s x k)
  last_after k s x e by none h = record {
    begins = h.begins;
    within = omega (arith, h.within);
    point_is = h.point_is;
    stays = λ j ge lt y. ⊎_elim (λ f. none (subst (Leaves T s.point.who) f y)) (λ l. h.stays j ge l y) (at_or_under j k lt);
    lasts = h.lasts;
    stable = stable_next T s.point.who s.begin k s.stable x e by h.within h.stable;
    made = (λ m. (k, h.within, omega arith, acts T s.point.who k x e by), λ p. refl);
  }

  -- a step of its own that leaves it: the state has ended
  pub state_ended : (k : ℕ) (s : State) (x : Step) → step_at T k ≡ Some x → actor x ≡ Some s.point.who → Leaves T s.point.who k → IsLast T k s → IsState T (ended (after s x k) k)
  state_ended k s x e by l h = record {
    begins = h.begins;
    point_is = h.point_is;
    ends = (h.within, acts_within T s.point.who k (leaves_acts T s.point.who k l), l, λ j ge lt. h.stays j ge lt);
    stable = subst (IsLeastFrom s.begin (Stabilizes T s.point.who) k) (sym (leaving_keeps T s.point.who k s.stable x e l)) h.stable;
    made = (λ m. (k, acts T s.point.who k x e by, h.point_is ∙ sym (stays_from T s.point.who s.begin k h.within h.stays)), λ p. refl);
  }

  -- and at the end of the trace the last state is told
  made_within : (n : ℕ) (s : State) → n ≡ len T → IsLast T n s → (j : ℕ) → ActsAt T s.point.who j → s.point ≡ point_at T s.point.who j → (i : ℕ) × (s.begin ≤ i) × (i < n) × ActsAt T s.point.who i
  made_within n s e h j a is = ⊎_elim
      (λ l. let q = acts_begun T w s.point.who s.begin j h.begins a l in absurd (no_return T s.point.who j s.begin q.0 q.1 q.2 (sym is ∙ h.point_is) q.3))
      (λ ge. (j, ge, omega (arith, acts_within T s.point.who j a, e), a))
      (cases_lt j s.begin)

  pub state_last : (n : ℕ) (s : State) → n ≡ len T → IsLast T n s → IsState T s
  state_last n s e h = record {
    begins = h.begins;
    point_is = h.point_is;
    ends = subst (λ (o : Option ℕ). IsLeastFrom s.begin (Leaves T s.point.who) (len T) o) (sym h.lasts) (λ j ge lt. h.stays j ge (omega (arith, lt, e)));
    stable = subst (λ (o : Option ℕ). IsLeastFrom s.begin (Stabilizes T s.point.who) (until (len T) o) s.stable) (sym h.lasts) (subst (λ (m : ℕ). IsLeastFrom s.begin (Stabilizes T s.point.who) m s.stable) e h.stable);
    made = (
      λ m. let p = h.made.0 m in (p.0, p.3, h.point_is ∙ sym (stays_from T s.point.who s.begin p.0 p.1 (λ j ge lt. h.stays j ge (omega (arith, lt, p.2))))),
      λ p. h.made.1 (made_within n s e h p.0 p.1 p.2),
    );
  }
