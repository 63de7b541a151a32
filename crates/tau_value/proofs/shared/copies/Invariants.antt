use Rattle.std.proofs.Common.{◌≡◌, take}
use Rattle.tau_value.proofs.shared.copies.Given as goal

abbrev pub invariant-loop-item : goal.invariant-loop-item
invariant-loop-item l = l.own.items ≡ take l.item-index l.items
