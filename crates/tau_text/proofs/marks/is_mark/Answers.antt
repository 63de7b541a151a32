use Rattle.std.proofs.Common.{sym, ap, ◌∙◌, arith}
use Rattle.tau_sexpr.specs.Form.{tree_of}
use Rattle.tau_sexpr.specs.Tree.{list, inside}
use Rattle.tau_text.specs.Parts.{is_mark}
use Rattle.tau_text.proofs.MarkLemmas.{no_single}
use Rattle.tau_text.proofs.marks.is_mark.Goals as goal

pub returns-in_default-items-2 : goal.returns-in_default-items-2
returns-in_default-items-2 c =
    let items = c.items.result.now in
    let none = no_single c.args.word.now items (λ e. grind (arith, e)) in
    sym (ap (λ f. is_mark c.args.word.now (tree_of f)) c.in-List.is ∙ ap (λ ts. is_mark c.args.word.now (list (inside ts))) (sym c.items.ensures) ∙ none)
