use Rattle.std.proofs.Common.{◌≡◌, ◌+◌, ◌*◌, ◌++◌, map, take}
use Rattle.tau_sexpr.specs.Tree.{inside, size_of, sizes}
use Rattle.tau_sexpr.specs.Form.{tree_of}
use Rattle.tau_sexpr.specs.Printing.{print_items, AllHaveBytes}
use Rattle.tau_sexpr.proofs.printer.+put.Given as goal

abbrev pub decreases-put_form : goal.decreases-put_form
decreases-put_form l = 2 * size_of (tree_of l.form.now)

abbrev pub decreases-put_items : goal.decreases-put_items
decreases-put_items l = 2 * sizes l.forms.now + 1

abbrev pub invariant-put_items-loop-k : goal.invariant-put_items-loop-k
invariant-put_items-loop-k l = record {
  text : l.out.items ≡ l.initial.out.items ++ print_items (inside (map tree_of (take l.k l.items)));
  bytes : AllHaveBytes (inside (map tree_of (take l.k l.items)));
}
