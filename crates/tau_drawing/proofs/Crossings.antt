-- The lines that cross the interval and the incarnation of a state.
use Rattle.std.proofs.Common.{◌≡◌, ⊎_elim, ◌↔◌, ℕ, ◌+◌, ◌<◌, ◌≤◌, leb, ltb, Bool, true, false, Some, None, refl, sym, ap, ◌∙◌, subst, arith}
use Rattle.std.specs.Prelude.{IsTrue, max}
use Rattle.std.proofs.lemmas.Bool.{leb-true, le-leb, ltb-true, lt-ltb}
use Rattle.tau_trace.specs.declared.step.Step.{Step}
use Rattle.tau_trace.specs.Run.{Run, step_at}
use Rattle.tau_trace.specs.Numbering.{IsOrigin, IsPlaceOf}
use Rattle.tau_trace.proofs.Lists.{same_some}
use Rattle.tau_trace.proofs.Once.{origin_once}
use Rattle.tau_svg.specs.declared.shapes.window.Window.{Window}
use Rattle.tau_svg.specs.Shapes.Windows.{IsDrawn}
use Rattle.tau_layout.specs.Plans.{Plan, grid}
use Rattle.tau_layout.specs.Paths.Senders.{ComesFromRight}
use Rattle.tau_layout.specs.Paths.Paths.{offset}
use Rattle.tau_scene.specs.declared.timelines.states.State.{State}
use Rattle.tau_drawing.specs.States.StateLines.{MeetsIn, point_end, CrossesAt, IsCrossed}
use Rattle.tau_drawing.proofs.Crowds.{meets_once}
use Rattle.tau_drawing.proofs.MeetingLemmas.{at_or_before}

-- whether the origin of a message stands before a place
pub origin_earlier : (T : Run) (m i place : ℕ) → IsPlaceOf T m (Some i) → IsTrue (ltb i place) ↔ ((j by : ℕ) → IsOrigin T j by m → j < place)
origin_earlier T m i place at = (
  λ e j by o. let same : j ≡ i = origin_once T j i by at.0 m o at.1 in omega (arith, same, ltb-true i place e),
  λ all. lt-ltb i place (all i at.0 at.1),
)

pub post_earlier : (T : Run) (m place : ℕ) → IsPlaceOf T m None → IsTrue true ↔ ((j by : ℕ) → IsOrigin T j by m → j < place)
post_earlier T m place none = (λ e j by o. absurd (none j by o), λ all. refl)

-- whether a line comes down near a lane
pub near_told : (T : Run) (k m reach n : ℕ) (st : Step) → Some st ≡ step_at T k → n ≡ offset true st m → (s : Step) → step_at T k ≡ Some s → IsTrue (leb n reach) ↔ (offset true s m ≤ reach)
near_told T k m reach n st at is s e =
    let same : st ≡ s = same_some (at ∙ e) in
    let n_is : n ≡ offset true s m = is ∙ ap (λ (x : Step). offset true x m) same in
    (λ h. omega (arith, n_is, leb-true n reach h), λ l. le-leb n reach (omega (arith, n_is, l)))

-- the line of the one message that a step receives or loses
module _ (T : Run) (plan : Plan) (s : State) (k m : ℕ) (meets : MeetsIn T s.point.who k m) where
  same : (x : CrossesAt T plan s k) → x.message ≡ m
  same x = meets_once T s.point.who k x.message m x.meets meets

  pub not_earlier : ¬ ((j by : ℕ) → IsOrigin T j by m → j < s.begin) → ¬ CrossesAt T plan s k
  not_earlier none = λ x. none (λ j by o.
      let e : j ≡ x.right.place = origin_once T j x.right.place by x.right.sender m o (subst (IsOrigin T x.right.place x.right.sender) (same x) x.right.origin) in
      omega (arith, e, x.earlier))

  pub not_near : (b : Bool) (reach : ℕ) → reach ≡ point_end s 11 → ((st : Step) → step_at T k ≡ Some st → IsTrue b ↔ (offset true st m ≤ reach)) → ¬ IsTrue b → ¬ CrossesAt T plan s k
  not_near b reach is told none = λ x.
      let near : offset true x.meets.stands.step m ≤ point_end s 11 = subst (λ (n : ℕ). offset true x.meets.stands.step n ≤ point_end s 11) (same x) x.near in
      none ((told x.meets.stands.step x.meets.stands.stands).1 (omega (arith, is, near)))

  pub crosses_by : (b : Bool) → IsTrue (grid plan).is_wide → IsDrawn plan.window k → s.begin ≤ k → ((j by : ℕ) → IsOrigin T j by m → j < s.begin) → offset true meets.stands.step m ≤ point_end s 11
      → (IsTrue b ↔ ComesFromRight T plan m s.point.who) → IsTrue b ↔ CrossesAt T plan s k
  crosses_by b wide drawn later before near right = (
    λ e. let r = right.0 e in record { wide = wide; drawn = drawn; later = later; message = m; meets = meets; right = r; earlier = before r.place r.sender r.origin; near = near },
    λ x. right.1 (subst (λ (n : ℕ). ComesFromRight T plan n s.point.who) (same x) x.right),
  )

-- no line of a step before place k crosses, and k isn't before the first place that may have one that does
pub record NoneBefore (T : Run) (plan : Plan) (s : State) (k : ℕ) : Type 0 where
  pub least : max s.begin plan.window.from ≤ k
  pub none : (j : ℕ) → j < k → ¬ CrossesAt T plan s j

pub none_first : (T : Run) (plan : Plan) (s : State) (v : Window) (first : ℕ) → v ≡ plan.window → first ≡ max s.begin v.from → NoneBefore T plan s first
none_first T plan s v first same is =
    let first_is : first ≡ max s.begin plan.window.from = is ∙ ap (λ (w : Window). max s.begin w.from) same in
    record { least = omega (arith, first_is); none = λ j lt x. let late = x.later in let drawn = x.drawn.0 in omega (arith, first_is, lt, late, drawn) }

pub none_more : (T : Run) (plan : Plan) (s : State) (k : ℕ) → NoneBefore T plan s k → ¬ CrossesAt T plan s k → NoneBefore T plan s (k + 1)
none_more T plan s k before here = record {
  least = omega (arith, before.least);
  none = λ j lt x. ⊎_elim (λ e. here (subst (CrossesAt T plan s) e x)) (λ l. before.none j l x) (at_or_before j k lt);
}

-- the places that are looked at are drawn, and don't stand before the one where the state begins
pub place_drawn : (T : Run) (plan : Plan) (s : State) (v : Window) (k : ℕ) → v ≡ plan.window → k < v.to → NoneBefore T plan s k → IsDrawn plan.window k
place_drawn T plan s v k same lt before = let least = before.least in (omega (arith, least), omega (arith, lt, ap (λ (w : Window). w.to) same))

pub place_later : (T : Run) (plan : Plan) (s : State) (k : ℕ) → NoneBefore T plan s k → s.begin ≤ k
place_later T plan s k before = let least = before.least in omega (arith, least)

-- in the end none crosses
pub none_crosses : (T : Run) (plan : Plan) (s : State) (v : Window) (k : ℕ) → v ≡ plan.window → v.to ≤ k → NoneBefore T plan s k → ¬ IsCrossed T plan s
none_crosses T plan s v k same le before = λ x. let drawn = x.1.drawn.1 in before.none x.0 (omega (arith, drawn, le, ap (λ (w : Window). w.to) same)) x.1

pub not_wide : (T : Run) (plan : Plan) (s : State) (b : Bool) → b ≡ (grid plan).is_wide → b ≡ false → ¬ IsCrossed T plan s
not_wide T plan s b is e = λ x. let wide = x.1.wide in let f : false ≡ true = sym e ∙ is ∙ wide in cc
