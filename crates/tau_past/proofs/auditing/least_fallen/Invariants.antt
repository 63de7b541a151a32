use Rattle.std.proofs.Common.{ℕ, ◌<◌, get_or}
use Rattle.tau_points.specs.declared.point.Point.{Point}
use Rattle.tau_past.specs.Safety.{RolledBack}
use Rattle.tau_past.proofs.auditing.least_fallen.Given as goal

abbrev pub invariant-loop-point : goal.invariant-loop-point
invariant-loop-point l = (k : ℕ) (d : Point) → k < l.point-index → ¬ RolledBack l.index (get_or l.points k d)
