-- The state of a point, as it is found among those that are seen.
use Rattle.std.specs.Prelude.{◌≡◌, ℕ, List, Option, Some, None, Contains}
use Rattle.tau_points.specs.declared.point.Point.{Point}
use Rattle.tau_trace.specs.Run.{Run}
use Rattle.tau_explain.specs.declared.chains.chained.Chained.{Chained}
use Rattle.tau_svg.specs.Shapes.Windows.{IsDrawn}
use Rattle.tau_layout.specs.Lanes.{StandsIn}
use Rattle.tau_layout.specs.Plans.{Plan}
use Rattle.tau_scene.specs.declared.timelines.states.State.{State}
use Rattle.tau_scene.specs.declared.looks.looks.Seen.{Seen}
use Rattle.tau_scene.specs.declared.looks.looks.Looks.{Looks}
use Rattle.tau_picture.specs.declared.chain.Placed.{Placed}
use Rattle.tau_picture.specs.Chains.{ShowsState}

-- the state of a point in a list; None where it has none there
abbrev pub IsStateOf : List Seen → Point → Option State → Type 0
IsStateOf states p None = (s : Seen) → Contains states s → ¬ (s.state.point ≡ p)
IsStateOf states p (Some state) = (s : Seen) × Contains states s × (s.state ≡ state) × (state.point ≡ p)

-- the state of a point and the middle of its lane; None where it isn't seen
abbrev pub IsPlaced : Plan → Looks → Point → Option Placed → Type 0
IsPlaced plan looks p None = (s : State) (x : ℕ) → ¬ ShowsState plan looks p s x
IsPlaced plan looks p (Some q) = ShowsState plan looks p q.state q.x

-- the place of the step that makes the link to a point, where it is drawn in another lane; None where it isn't
pub record IsMaker (T : Run) (plan : Plan) (c : Chained) (j : ℕ) : Type 0 where
  pub by : c.by ≡ Some j
  pub drawn : IsDrawn plan.window j
  pub apart : ¬ StandsIn T j c.point.who

abbrev pub IsMakerOf : Run → Plan → Chained → Option ℕ → Type 0
IsMakerOf T plan c None = (j : ℕ) → ¬ IsMaker T plan c j
IsMakerOf T plan c (Some j) = IsMaker T plan c j
