use Rattle.std.proofs.Common.{take}
use Rattle.tau_layout.specs.Inner.Marking.{IsNodesMarked}
use Rattle.tau_layout.proofs.groups.nodes_marked.Given as goal

abbrev pub invariant-loop-lane : goal.invariant-loop-lane
invariant-loop-lane l = IsNodesMarked (take l.lane-index l.lanes) l.nodes l.marks.items
