use Rattle.tau_layout.specs.Inner.Marking.{AreMarked}
use Rattle.tau_layout.proofs.lanes.marked.Given as goal

abbrev pub invariant-loop-who : goal.invariant-loop-who
invariant-loop-who l = AreMarked l.marks l.who l.all.items
