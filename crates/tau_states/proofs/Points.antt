-- Places at which no Set was made at a point.
use Rattle.std.proofs.Common.{◌≡◌, ◌⊎◌, inl, inr, ⊎_elim, ℕ, zero, suc, ◌<◌, ◌≤◌, false, Some, List, sym, ap, ◌∙◌, subst, arith}
use Rattle.tau_value.specs.declared.shared.Value.{Value}
use Rattle.tau_points.specs.declared.point.Point.{Point}
use Rattle.tau_trace.specs.declared.step.Step.{Step}
use Rattle.tau_trace.specs.Steps.{actor}
use Rattle.tau_trace.specs.Run.{Run, step_at, Does}
use Rattle.tau_trace.specs.Points.{point_at, Leaves}
use Rattle.tau_trace.proofs.PointLemmas.{points_grow}
use Rattle.tau_trace.proofs.Lists.{same_some}
use Rattle.tau_trace.proofs.Sequences.{cases_last}
use Rattle.tau_past.specs.Carried.{is_set}
use Rattle.tau_past.specs.States.{NoSet, StateAt, by_set, by_new, by_save}
use Rattle.tau_states.specs.Table.{IsBase}

not_back : (a b c d e f : ℕ) → (a < c) ⊎ ((a ≡ c) × (b ≤ d)) → (c < e) ⊎ ((c ≡ e) × (d < f)) → e ≡ a → f ≡ b → ⊥
not_back a b c d e f (inl x) (inl y) p r = omega arith
not_back a b c d e f (inl x) (inr y) p r = omega arith
not_back a b c d e f (inr x) (inl y) p r = omega arith
not_back a b c d e f (inr x) (inr y) p r = omega arith

-- a transactor that leaves its point comes to one at which it made no Set yet
pub new_point : (T : Run) (t k : ℕ) → Leaves T t k → NoSet T (point_at T t (suc k)) 0 (suc k)
new_point T t k leaves j z l d e =
    let grows = points_grow T t k in
    let p = point_at T t j in
    let q = point_at T t k in
    let r = point_at T t (suc k) in
    not_back p.interval p.incarnation q.interval q.incarnation r.interval r.incarnation (grows.grows j (omega arith)) (grows.leaves leaves) (ap (λ x. x.interval) e) (ap (λ x. x.incarnation) e)

-- one place more, at which no Set is made at the point
pub no_set_on : (T : Run) (q : Point) (a k : ℕ) → (Does is_set T q.who k → ¬ (q ≡ point_at T q.who k)) → NoSet T q a k → NoSet T q a (suc k)
no_set_on T q a k not none j l b = ⊎_elim
    (λ (e : j ≡ k). let P : ℕ → Type 0 = λ i. Does is_set T q.who i → ¬ (q ≡ point_at T q.who i) in subst P (sym e) not)
    (λ c. none j l c)
    (cases_last j k b)

pub state_on : (T : Run) (opening : List Value) (q : Point) (k : ℕ) (v : Value) → (Does is_set T q.who k → ¬ (q ≡ point_at T q.who k)) → StateAt T opening q k v → StateAt T opening q (suc k) v
state_on T opening q k v not (by_set {j = j} e at b none) = by_set {j = j} e at (omega arith) (no_set_on T q (suc j) k not none)
state_on T opening q k v not (by_new {j = j} {by = by} birth is first none) = by_new {j = j} {by = by} birth is first (no_set_on T q 0 k not none)
state_on T opening q k v not (by_save {i = i} is saved none) = by_save {i = i} is saved (no_set_on T q 0 k not none)

-- where no Set was made at a point, its state is the base
pub at_base : (T : Run) (opening : List Value) (q : Point) (k i : ℕ) (v : Value) → IsBase T opening q.who i v → q.interval ≡ i → NoSet T q 0 k → StateAt T opening q k v
at_base T opening q k zero v given e none = by_new {j = given.place} {by = given.by} given.birth given.is e none
at_base T opening q k (suc i) v saved e none = by_save {i = i} e saved none

-- a step that is no Set, or is another's
pub set_by_none : (T : Run) (t k : ℕ) (s : Step) → step_at T k ≡ Some s → is_set s ≡ false → ¬ Does is_set T t k
set_by_none T t k s e not d = let is : d.step ≡ s = same_some (sym d.stands ∙ e) in let both = sym d.passes ∙ ap is_set is ∙ not in cc

pub set_by_other : (T : Run) (t k : ℕ) (s : Step) → step_at T k ≡ Some s → ¬ (actor s ≡ Some t) → ¬ Does is_set T t k
set_by_other T t k s e other d = let is : d.step ≡ s = same_some (sym d.stands ∙ e) in other (ap actor (sym is) ∙ d.by)
