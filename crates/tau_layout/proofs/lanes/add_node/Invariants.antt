use Rattle.std.proofs.Common.{take}
use Rattle.tau_layout.specs.Inner.Marking.{AddsLanes}
use Rattle.tau_layout.proofs.lanes.add_node.Given as goal

abbrev pub invariant-loop-who : goal.invariant-loop-who
invariant-loop-who l = AddsLanes l.trace.run l.node (take l.who-index l.all) l.initial.lanes.items l.lanes.items
