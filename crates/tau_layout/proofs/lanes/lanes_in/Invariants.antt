use Rattle.tau_layout.specs.Inner.Marking.{AddsNodes}
use Rattle.tau_layout.proofs.lanes.lanes_in.Given as goal

abbrev pub invariant-loop-node : goal.invariant-loop-node
invariant-loop-node l = AddsNodes l.trace.run l.all.items l.node l.lanes.items
