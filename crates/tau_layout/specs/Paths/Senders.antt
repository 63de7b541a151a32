-- The senders of messages, and the side from which a message comes (docs/formats.md, "Pictures").
use Rattle.std.specs.Prelude.{ℕ, ◌≤◌, Option, Some, None}
use Rattle.tau_trace.specs.declared.step.Step.{Step}
use Rattle.tau_trace.specs.declared.step.Step.TheVariants.{Lose}
use Rattle.tau_trace.specs.Steps.{received_by}
use Rattle.tau_trace.specs.Run.{Run}
use Rattle.tau_trace.specs.Numbering.{IsOrigin}
use Rattle.tau_svg.specs.Shapes.Windows.{IsDrawn}
use Rattle.tau_layout.specs.Plans.{Plan, HasRank}
use Rattle.tau_layout.specs.declared.paths.senders.Origin.{Origin}

-- the message that a step receives or loses
abbrev pub met_by : Step → Option ℕ
met_by (Lose m) = Some m
met_by s = received_by s

-- the place and the transactor of the origin of message m; None where it has none
abbrev pub IsOriginOf : Run → ℕ → Option Origin → Type 0
IsOriginOf T m None = (j by : ℕ) → ¬ IsOrigin T j by m
IsOriginOf T m (Some o) = IsOrigin T o.place o.who m

-- the lane of u has at least the rank of that of t
pub record StandsRight (plan : Plan) (u t : ℕ) : Type 0 where
  pub rank : ℕ
  pub other : ℕ
  pub rank_is : HasRank plan u rank
  pub other_is : HasRank plan t other
  pub least : other ≤ rank

-- the line of message m to t comes from the right: the message has an origin that is drawn, in a lane of at least the rank of t's
pub record ComesFromRight (T : Run) (plan : Plan) (m t : ℕ) : Type 0 where
  pub place : ℕ
  pub sender : ℕ
  pub origin : IsOrigin T place sender m
  pub drawn : IsDrawn plan.window place
  pub right : StandsRight plan sender t
