use Rattle.std.proofs.Common.{◌-◌, ◌∙◌, ap, map, sym, take, drop, length, arith}
use Rattle.tau_sexpr.specs.Form.{tree_of}
use Rattle.tau_sexpr.specs.Tree.{list, inside}
use Rattle.tau_steps.proofs.StepLemmas.{kind_told, told_step, headed}
use Rattle.tau_steps.proofs.rows.read_step.Goals as goal

pub returns-in-Word : goal.returns-in-Word
returns-in-Word c =
    let items = c.items.result.now in
    let form = ap tree_of c.in-List.is ∙ ap (λ ts. list (inside ts)) (sym c.items.ensures) ∙ ap list (headed items c.first-item.result c.in-Word.head (omega arith) c.first-item.is c.in-Word.is) in
    told_step c.args.place (tree_of c.args.form.now) c.in-Word.head c.in_version-kind.result (inside (map tree_of (take (length items - 1) (drop 1 items)))) c.read_row.result form (kind_told c.args.place.opening.now.version c.kind_of.result c.in-Word.head c.in_version-kind.result c.in_version-kind.ensures c.kind_of.ensures) c.read_row.ensures
