use Rattle.std.proofs.Common.{◌-◌, ◌^◌, ◌≡◌, [], ◌↔◌}
use Rattle.std.specs.Prelude.{Contains}
use Rattle.std.specs.HashMap.{get}
use Rattle.tau_points.specs.declared.point.Point.{Point}
use Rattle.tau_explain.specs.Chains.Inner.Distances.{same_point}
use Rattle.tau_explain.specs.Chains.Inner.Searching.{Searches}
use Rattle.tau_explain.proofs.chains.distance.distances.Given as goal

abbrev pub invariant-loop-at : goal.invariant-loop-at
invariant-loop-at g l =
    g.G.Incoming.is_ready l.graph × (l.into.items ≡ []) × ((p r : Point) → g.G.Incoming.leads l.graph p r ↔ g.G.Incoming.leads l.fn.graph p r)
    × Searches (g.G.Incoming.leads l.graph) (g.G.Incoming.passed l.graph) (Contains l.fn.points) l.at l.queue.items (get same_point l.far)

abbrev pub decreases-loop-at : goal.decreases-loop-at
decreases-loop-at g l = 2 ^ 64 - l.at
