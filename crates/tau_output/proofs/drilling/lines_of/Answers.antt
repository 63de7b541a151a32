use Rattle.std.proofs.Common.{◌≡◌, IfOk, List, subst}
use Rattle.tau_sexpr.specs.Form.{tree_of}
use Rattle.tau_sexpr.specs.Tree.{Tree}
use Rattle.tau_sexpr.specs.Printing.{printed}
use Rattle.tau_output.proofs.DrillLemmas.{two_lines}
use Rattle.tau_output.proofs.drilling.lines_of.Goals as goal

pub returns : goal.returns
returns c =
    let steps = c.in_ok-steps_form in
    let counts = c.in_ok-counts_form in
    let lines = two_lines c.args.trace.now.run c.len.result c.new-lines.result c.add.new.self c.add-2.new.self (tree_of steps.field-0) (tree_of counts.field-0)
    c.len.ensures.len steps.ensures.form counts.ensures.form c.new-lines.ensures c.in_ok-add.ensures.ok c.in_ok-add-2.ensures.ok in
    subst (λ (l : List Tree). IfOk c.print_forms.result (λ v. v.items ≡ printed l)) lines c.print_forms.ensures.text
