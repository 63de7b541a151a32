use Rattle.std.proofs.Common.{take}
use Rattle.tau_verdicts.specs.Doomed.{flag_of}
use Rattle.tau_verdicts.specs.Noting.{AreWell}
use Rattle.tau_verdicts.proofs.noting.all_well.Given as goal

-- the points so far are well
abbrev pub invariant-loop-point : goal.invariant-loop-point
invariant-loop-point l = AreWell l.logs (flag_of l.doomed) (take l.point-index l.points)
