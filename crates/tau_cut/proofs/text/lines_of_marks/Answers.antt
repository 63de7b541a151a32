use Rattle.std.proofs.Common.{◌∙◌, ◌++◌, ◌∷◌, [], List, ap, arith}
use Rattle.std.proofs.lemmas.List.{take_all}
use Rattle.tau_sexpr.specs.Printing.{printed}
use Rattle.tau_cut.specs.declared.cut.Marked.{Marked}
use Rattle.tau_cut.specs.Texts.{mark_form, mark_forms}
use Rattle.tau_cut.proofs.LineLemmas.{lines_more}
use Rattle.tau_cut.proofs.text.lines_of_marks.Goals as goal

pub loop-mark-preserved : goal.loop-mark-preserved
loop-mark-preserved c =
    let o = c.args.opening.now in
    let marks = c.items-mark-items.result.now in
    let m = c.mark-item.result in
    lines_more o marks c.loop-mark.mark-index m c.loop-mark.text.items c.extend_from_slice.new.self.items c.in_ok-line.line.items (omega (arith, c.loop-mark-test.true)) (c.in_ok-line.ensures ∙ ap (λ (x : Marked). printed (mark_form o x ∷ [])) c.mark-item.is)
    (c.in_ok-extend_from_slice.ensures.items ∙ ap (λ xs. c.loop-mark.text.items ++ xs) c.deref.ensures.value) c.loop-mark.invariant

pub returns : goal.returns
returns c = c.loop-mark.invariant ∙ ap (λ (ms : List Marked). printed (mark_forms c.args.opening.now ms)) (take_all c.loop-mark.mark-index c.items-mark-items.result.now c.loop-mark-test.false ∙ c.items-mark-items.ensures)
