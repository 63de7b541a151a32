use Rattle.std.proofs.Common.{map, sym, ◌∙◌, arith}
use Rattle.std.proofs.lemmas.List.{length-map}
use Rattle.tau_sexpr.specs.Form.{tree_of}
use Rattle.tau_steps.proofs.LoopLemmas.{item_at}
use Rattle.tau_text.proofs.PartLemmas.{first_mark, no_mark, one_more}
use Rattle.tau_text.proofs.marks.place_of_mark.Goals as goal

pub returns-then-is_mark : goal.returns-then-is_mark
returns-then-is_mark c =
    let stands = item_at c.args.forms.now c.loop-place.place c.index-forms-place.result (omega arith) c.index-forms-place.is in
    sym (first_mark c.args.word.now (map tree_of c.args.forms.now) c.loop-place.place (tree_of c.index-forms-place.result) c.loop-place.invariant stands (sym c.is_mark.ensures ∙ c.if-is_mark.true))

pub loop-place-preserved : goal.loop-place-preserved
loop-place-preserved c =
    let stands = item_at c.args.forms.now c.loop-place.place c.index-forms-place.result (omega arith) c.index-forms-place.is in
    one_more c.args.word.now (map tree_of c.args.forms.now) c.loop-place.place (tree_of c.index-forms-place.result) c.loop-place.invariant stands (sym c.is_mark.ensures ∙ c.if-is_mark.false)

pub returns : goal.returns
returns c =
    let none = no_mark c.args.word.now (map tree_of c.args.forms.now) (λ k u l at. c.loop-place.invariant k u (omega (arith, length-map c.args.forms.now tree_of)) at) in
    omega (arith, none, length-map c.args.forms.now tree_of)
