-- Safe traces (docs/definitions.md, "Rolled back", "Safe").
use Rattle.std.specs.Prelude.{◌≡◌, ℕ, IsFalse, Some}
use Rattle.tau_points.specs.declared.point.Point.{Point}
use Rattle.tau_trace.specs.declared.step.Step.TheVariants.{Fall, Rollback}
use Rattle.tau_trace.specs.Run.{Run, step_at, Does}
use Rattle.tau_trace.specs.Histories.{history, Closes}
use Rattle.tau_trace.specs.Points.{point_at}
use Rattle.tau_past.specs.Carried.{is_set}
use Rattle.tau_past.specs.Pasts.{Past, Everywhere, FellIn}
use Rattle.tau_past.specs.Decisions.{FallsBy, Free}

-- some falling step of the trace, anywhere, was made at the point
abbrev pub RolledBack : Run → Point → Type 0
RolledBack T q = FellIn T Everywhere q

-- for each Checkpoint, the past of the point at which it was made holds no point that is rolled back
abbrev pub Safe : Run → Type 0
Safe T = (t c : ℕ) (q : Point) → Closes T t c → Past T (point_at T t c) q → ¬ RolledBack T q

-- the facts from which a trace is safe: who falls by itself is volatile, a Set is made only by a volatile transactor, a
-- Fall has a cause that was heard of, and a Checkpoint is made only by a free transactor. (A Trap or a Fail of a stable
-- transactor is no falling step, and no step is made at a start's opening point, in every trace.)
pub record KeepsRules (T : Run) : Type 0 where
  pub rollback : (t k : ℕ) → step_at T k ≡ Some (Rollback t) → IsFalse (history T t k).stable
  pub set : (t k : ℕ) → Does is_set T t k → IsFalse (history T t k).stable
  pub fall : (t k m : ℕ) → step_at T k ≡ Some (Fall t m) → FallsBy T t k m
  pub checkpoint : (t k : ℕ) → Closes T t k → Free T t k
