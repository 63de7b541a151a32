use Rattle.std.proofs.Common.{◌≡◌, map, take}
use Rattle.tau_tree.specs.Expr.{code_of}
use Rattle.tau_tree.proofs.expressions.+copy.Given as goal

abbrev pub invariant-Exprs::copy-loop-item : goal.invariant-Exprs::copy-loop-item
invariant-Exprs::copy-loop-item l = map code_of l.items.items ≡ map code_of (take l.item-index l.item-items)
