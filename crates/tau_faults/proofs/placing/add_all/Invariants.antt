use Rattle.std.proofs.Common.{◌≡◌, ◌++◌, take}
use Rattle.tau_faults.proofs.placing.add_all.Given as goal

abbrev pub invariant-loop-item : goal.invariant-loop-item
invariant-loop-item l = l.script ≡ l.initial.script ++ take l.item-index l.items
