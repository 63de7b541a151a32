use Rattle.std.proofs.Common.{◌≡◌, ◌-◌, ◌^◌, min, map, take}
use Rattle.tau_sexpr.specs.Tree.{sizes}
use Rattle.tau_sexpr.specs.Form.{tree_of}
use Rattle.tau_sexpr.proofs.trees.+size.Given as goal

abbrev pub invariant-Forms::size-loop-item : goal.invariant-Forms::size-loop-item
invariant-Forms::size-loop-item l = l.size ≡ min (sizes (map tree_of (take l.item-index l.item-items))) (2 ^ 64 - 1)
