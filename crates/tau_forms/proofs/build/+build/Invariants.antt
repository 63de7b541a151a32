use Rattle.std.proofs.Common.{◌≡◌, ◌+◌, ◌*◌, map, take}
use Rattle.tau_sexpr.specs.Form.{tree_of}
use Rattle.tau_sexpr.specs.Tree.{inside, size_of, size_of_all}
use Rattle.tau_tree.specs.Code.{inside as codes}
use Rattle.tau_tree.specs.Expr.{codes_of}
use Rattle.tau_forms.specs.Meaning.{codes_in}
use Rattle.tau_forms.proofs.build.+build.Given as goal

abbrev pub decreases-build_expression : goal.decreases-build_expression
decreases-build_expression l = 2 * size_of (tree_of l.form.now)

abbrev pub decreases-build_list : goal.decreases-build_list
decreases-build_list l = 2 * size_of_all (inside (map tree_of l.items.now)) + 2

abbrev pub decreases-build_all : goal.decreases-build_all
decreases-build_all l = 2 * size_of_all (inside (map tree_of l.items.now)) + 1

abbrev pub decreases-build_let : goal.decreases-build_let
decreases-build_let l = 2 * size_of_all (inside (map tree_of l.items.now)) + 1

abbrev pub decreases-build_if : goal.decreases-build_if
decreases-build_if l = 2 * size_of_all (inside (map tree_of l.items.now)) + 1

abbrev pub decreases-build_fold : goal.decreases-build_fold
decreases-build_fold l = 2 * size_of_all (inside (map tree_of l.items.now)) + 1

abbrev pub decreases-build_set : goal.decreases-build_set
decreases-build_set l = 2 * size_of_all (inside (map tree_of l.items.now)) + 1

abbrev pub decreases-build_send : goal.decreases-build_send
decreases-build_send l = 2 * size_of_all (inside (map tree_of l.items.now)) + 1

abbrev pub decreases-build_new : goal.decreases-build_new
decreases-build_new l = 2 * size_of_all (inside (map tree_of l.items.now)) + 1

abbrev pub invariant-build_all-loop-item : goal.invariant-build_all-loop-item
invariant-build_all-loop-item l = codes (codes_of l.exprs) ≡ codes_in l.tables (inside (map tree_of (take l.item-index l.items)))
