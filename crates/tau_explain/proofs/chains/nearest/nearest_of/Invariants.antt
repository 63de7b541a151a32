use Rattle.std.proofs.Common.{Contains, take}
use Rattle.std.specs.HashMap.{get}
use Rattle.tau_explain.specs.Chains.Inner.Distances.{same_point, IsNearestOf}
use Rattle.tau_explain.proofs.chains.nearest.nearest_of.Given as goal

abbrev pub invariant-loop-point : goal.invariant-loop-point
invariant-loop-point l = IsNearestOf (Contains (take l.point-index l.points)) (get same_point l.far) l.nearest
