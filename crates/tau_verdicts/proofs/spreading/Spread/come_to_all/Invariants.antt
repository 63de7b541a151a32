use Rattle.std.proofs.Common.{take}
use Rattle.std.specs.Prelude.{Contains}
use Rattle.tau_verdicts.specs.Spreading.{Comes}
use Rattle.tau_verdicts.proofs.spreading.Spread.come_to_all.Given as goal

-- the points so far were passed
abbrev pub invariant-loop-point : goal.invariant-loop-point
invariant-loop-point l = Comes l.logs (Contains (take l.point-index l.points)) l.fn.self.doomed.items l.self.doomed.items l.fn.self.left.items l.self.left.items
