use Rattle.std.proofs.Common.{◌≡◌, take}
use Rattle.tau_lists.proofs.lists.ItemList.same.Given as goal

abbrev pub invariant-loop-k : goal.invariant-loop-k
invariant-loop-k g l = take l.k l.item-items ≡ take l.k l.other-inside.items.items
