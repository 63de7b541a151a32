use Rattle.std.proofs.Common.{◌≤◌, map, take}
use Rattle.tau_tree.specs.Code.{inside}
use Rattle.tau_tree.specs.Expr.{code_of}
use Rattle.tau_tree.specs.Parts.{depth_of_all}
use Rattle.tau_tree.proofs.bodies.+shallow.Given as goal

abbrev pub invariant-are_shallow-loop-item : goal.invariant-are_shallow-loop-item
invariant-are_shallow-loop-item l = depth_of_all (inside (map code_of (take l.item-index l.item-items))) ≤ l.room
