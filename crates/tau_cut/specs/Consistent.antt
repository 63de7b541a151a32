-- Checkpoints that could all be kept if everything else were lost (docs/definitions.md, "Consistent"). A set of places of a trace
-- is a list.
use Rattle.std.specs.Prelude.{◌⊎◌, ℕ, List, Contains}
use Rattle.tau_points.specs.declared.point.Point.{Point}
use Rattle.tau_trace.specs.Run.{Run}
use Rattle.tau_trace.specs.Points.{IsOpeningPoint}
use Rattle.tau_past.specs.Pasts.{Past}
use Rattle.tau_past.specs.Audits.{ChecksAt}

-- a point can be kept where a Checkpoint was made at it, or it is the opening point of a start
pub data KeptAble (T : Run) (q : Point) : Type 0 where
  checkpoint : {k : ℕ} → ChecksAt T k q → KeptAble T q
  opening : IsOpeningPoint T q → KeptAble T q

-- one of the steps is a Checkpoint that was made at q
pub record MadeBy (T : Run) (steps : List ℕ) (q : Point) : Type 0 where
  pub place : ℕ
  pub held : Contains steps place
  pub checks : ChecksAt T place q

-- the steps are Checkpoints, and with each of them each point in the past of its point is an opening point, or one at which one
-- of the steps was made
pub record IsConsistent (T : Run) (steps : List ℕ) : Type 0 where
  pub checkpoints : (k : ℕ) → Contains steps k → (p : Point) × ChecksAt T k p
  pub keeps : (k : ℕ) (p q : Point) → Contains steps k → ChecksAt T k p → Past T p q → IsOpeningPoint T q ⊎ MadeBy T steps q
