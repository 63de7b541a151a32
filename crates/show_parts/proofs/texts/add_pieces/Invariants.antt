use Rattle.std.proofs.Common.{◌-◌, ◌≤◌, length}
use Rattle.show_parts.proofs.texts.add_pieces.Given as goal

abbrev pub invariant-loop-at : goal.invariant-loop-at
invariant-loop-at l = l.at ≤ length l.bytes.items

abbrev pub decreases-loop-at : goal.decreases-loop-at
decreases-loop-at l = length l.bytes.items - l.at
