use Rattle.tau_points.specs.Members.{AddsAll}
use Rattle.tau_scene.specs.Causes.Inner.Resting.{AsksInLanes}
use Rattle.tau_scene.proofs.causes.asking.push_lanes.Given as goal

abbrev pub invariant-loop-lane : goal.invariant-loop-lane
invariant-loop-lane l = AddsAll (AsksInLanes l.lanes l.lane-index) l.initial.points.items l.points.items
