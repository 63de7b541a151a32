use Rattle.std.proofs.Common.{◌+◌, ◌*◌, map}
use Rattle.tau_sexpr.specs.Form.{tree_of}
use Rattle.tau_sexpr.specs.Tree.{inside, size_of, size_of_all}
use Rattle.tau_forms.proofs.LoopLemmas.{Reached}
use Rattle.tau_forms.proofs.checking.+check.Given as goal

abbrev pub decreases-check : goal.decreases-check
decreases-check l = 4 * size_of (tree_of l.form.now)

abbrev pub decreases-check_list : goal.decreases-check_list
decreases-check_list l = 4 * size_of_all (inside l.list.now) + 3

abbrev pub decreases-check_expression : goal.decreases-check_expression
decreases-check_expression l = 4 * size_of_all (inside (map tree_of l.items.now)) + 2

abbrev pub decreases-check_items : goal.decreases-check_items
decreases-check_items l = 4 * size_of_all (inside (map tree_of l.items.now)) + 1

abbrev pub invariant-check_items-loop-k : goal.invariant-check_items-loop-k
invariant-check_items-loop-k l = Reached l.tables l.row l.items l.initial.node l.k l.node
