use Rattle.std.proofs.Common.{◌≡◌, map, take}
use Rattle.tau_tree.specs.Expr.{code_of}
use Rattle.tau_tree.proofs.expressions.+same.Given as goal

abbrev pub invariant-Exprs::same-loop-k : goal.invariant-Exprs::same-loop-k
invariant-Exprs::same-loop-k l =
    map code_of (take l.k l.item-items) ≡ map code_of (take l.k l.other.items.items)
