use Rattle.std.proofs.Common.{◌≡◌, ◌++◌, take}
use Rattle.tau_revival.proofs.scripts.push_all.Given as goal

abbrev pub invariant-loop-item : goal.invariant-loop-item
invariant-loop-item l = l.script ≡ l.fn.script ++ take l.item-index l.items
