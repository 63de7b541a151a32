use Rattle.std.proofs.Common.{◌≡◌, ◌++◌, map, take}
use Rattle.tau_value.specs.Value.{val_of}
use Rattle.tau_eval.proofs.operations.join_lists.Given as goal

abbrev pub invariant-loop-item : goal.invariant-loop-item
invariant-loop-item l = l.joined ≡ l.one ++ map val_of (take l.item-index l.item-items)
