use Rattle.std.proofs.Common.{◌≡◌, Some}
use Rattle.std.specs.HashMap.{get}
use Rattle.tau_points.specs.Reach.{Leads}
use Rattle.tau_explain.specs.Chains.Inner.Distances.{same_point, GoesTo}
use Rattle.tau_explain.proofs.chains.searching.going_down.Given as goal

abbrev pub invariant-loop-left : goal.invariant-loop-left
invariant-loop-left l = GoesTo (Leads l.links) (get same_point l.far) l.fn.first l.points.items l.last × (get same_point l.far l.last ≡ Some l.left)
