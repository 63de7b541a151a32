use Rattle.std.proofs.Common.{take}
use Rattle.tau_points.specs.Members.{HasAll}
use Rattle.tau_view.proofs.fate.least.has_all.Given as goal

abbrev pub invariant-loop-point : goal.invariant-loop-point
invariant-loop-point l = HasAll l.points (take l.point-index l.point-items)
