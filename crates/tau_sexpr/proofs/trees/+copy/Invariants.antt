use Rattle.std.proofs.Common.{◌≡◌, map, take}
use Rattle.tau_sexpr.specs.Form.{tree_of}
use Rattle.tau_sexpr.proofs.trees.+copy.Given as goal

abbrev pub invariant-Forms::copy-loop-item : goal.invariant-Forms::copy-loop-item
invariant-Forms::copy-loop-item l = map tree_of l.items.items ≡ map tree_of (take l.item-index l.item-items)
