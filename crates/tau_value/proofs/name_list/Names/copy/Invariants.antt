use Rattle.std.proofs.Common.{◌≡◌, take}
use Rattle.tau_value.proofs.name_list.Names.copy.Given as goal

abbrev pub invariant-loop-item : goal.invariant-loop-item
invariant-loop-item l = l.names ≡ take l.item-index l.item-items
