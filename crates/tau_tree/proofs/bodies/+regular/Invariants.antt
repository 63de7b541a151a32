use Rattle.std.proofs.Common.{map, take}
use Rattle.tau_tree.specs.Code.{inside}
use Rattle.tau_tree.specs.Expr.{code_of}
use Rattle.tau_tree.specs.Parts.{AllThroughout}
use Rattle.tau_tree.specs.Checks.{KeepsRules}
use Rattle.tau_tree.proofs.bodies.+regular.Given as goal

abbrev pub invariant-are_regular-loop-item : goal.invariant-are_regular-loop-item
invariant-are_regular-loop-item l = AllThroughout (KeepsRules l.starts l.behaviours) (inside (map code_of (take l.item-index l.item-items)))
