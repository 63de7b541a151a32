use Rattle.std.proofs.Common.{◌≡◌, ◌+◌, ◌*◌, ◌++◌, map, take}
use Rattle.tau_sexpr.specs.Printing.{print_rest, AllHaveBytes}
use Rattle.tau_sexpr.specs.Tree as tree
use Rattle.tau_tree.specs.Code.{inside}
use Rattle.tau_tree.specs.Expr.{code_of, codes_of}
use Rattle.tau_tree.specs.Parts.{AllThroughout}
use Rattle.tau_tree.specs.Inner.Size.{size_of, size_of_all}
use Rattle.tau_forms.specs.Inner.Fitting.{HasFittingInteger}
use Rattle.tau_forms.specs.Printed.{code_form}
use Rattle.tau_forms.proofs.writing.+put.Given as goal

abbrev pub decreases-put_expression : goal.decreases-put_expression
decreases-put_expression l = 3 * size_of (code_of l.expr.now)

abbrev pub decreases-add_expression : goal.decreases-add_expression
decreases-add_expression l = 3 * size_of (code_of l.expr.now) + 1

abbrev pub decreases-put_all : goal.decreases-put_all
decreases-put_all l = 3 * size_of_all (inside (codes_of l.items.now)) + 2

abbrev pub decreases-put_let : goal.decreases-put_let
decreases-put_let l = 3 * (size_of (code_of l.value.now) + size_of (code_of l.body.now)) + 2

abbrev pub decreases-put_if : goal.decreases-put_if
decreases-put_if l = 3 * (size_of (code_of l.test.now) + size_of (code_of l.yes.now) + size_of (code_of l.no.now)) + 2

abbrev pub decreases-put_fold : goal.decreases-put_fold
decreases-put_fold l = 3 * (size_of (code_of l.list.now) + size_of (code_of l.first.now) + size_of (code_of l.body.now)) + 2

abbrev pub decreases-put_set : goal.decreases-put_set
decreases-put_set l = 3 * size_of (code_of l.value.now) + 2

abbrev pub decreases-put_send : goal.decreases-put_send
decreases-put_send l = 3 * (size_of (code_of l.to.now) + size_of (code_of l.value.now)) + 2

abbrev pub decreases-put_new : goal.decreases-put_new
decreases-put_new l = 3 * (size_of (code_of l.node.now) + size_of (code_of l.state.now)) + 2

abbrev pub invariant-put_all-loop-item : goal.invariant-put_all-loop-item
invariant-put_all-loop-item l = record {
  text : l.out.items ≡ l.initial.out.items ++ print_rest (tree.inside (map (code_form l.tables.behaviours l.tables.starts) (map code_of (take l.item-index l.item-items))));
  bytes : AllHaveBytes (tree.inside (map (code_form l.tables.behaviours l.tables.starts) (map code_of (take l.item-index l.item-items))));
  integers : AllThroughout HasFittingInteger (inside (map code_of (take l.item-index l.item-items)));
}
