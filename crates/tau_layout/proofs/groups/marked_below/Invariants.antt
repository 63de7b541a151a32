use Rattle.std.proofs.Common.{◌≡◌, ◌≤◌}
use Rattle.tau_layout.specs.Inner.Marking.{marked_below}
use Rattle.tau_layout.proofs.groups.marked_below.Given as goal

abbrev pub invariant-loop-number : goal.invariant-loop-number
invariant-loop-number l = (l.count ≡ marked_below l.marks l.number) × (l.count ≤ l.number)
