use Rattle.std.proofs.Common.{◌≡◌, map, take}
use Rattle.tau_sexpr.specs.Form.{tree_of}
use Rattle.tau_sexpr.proofs.trees.+same.Given as goal

abbrev pub invariant-Forms::same-loop-k : goal.invariant-Forms::same-loop-k
invariant-Forms::same-loop-k l = map tree_of (take l.k l.item-items) ≡ map tree_of (take l.k l.other-inside.items.items)
