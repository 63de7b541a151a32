use Rattle.std.proofs.Common.{◌≡◌, map, take}
use Rattle.tau_tree.specs.Code.{inside}
use Rattle.tau_tree.specs.Expr.{code_of}
use Rattle.tau_tree.specs.Parts.{AllBoundIn}
use Rattle.tau_tree.proofs.bodies.+bound.Given as goal

abbrev pub invariant-are_bound-loop-item : goal.invariant-are_bound-loop-item
invariant-are_bound-loop-item l =
    (l.scope ≡ l.fn.scope) × AllBoundIn l.fn.scope (inside (map code_of (take l.item-index l.item-items)))
