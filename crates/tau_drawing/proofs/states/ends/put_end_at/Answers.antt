use Rattle.std.proofs.Common.{◌≡◌, ◌∙◌, Some, None, sym, ap}
use Rattle.std.specs.Prelude.{slice_get}
use Rattle.std.proofs.lemmas.Option.{slice_get-get_or, slice_get_past}
use Rattle.std.proofs.lemmas.Result.{on_ok_weaker}
use Rattle.tau_svg.specs.Markup.Lines.{with_lines}
use Rattle.tau_drawing.specs.States.EndLines.{ending_lines}
use Rattle.tau_drawing.proofs.states.ends.put_end_at.Goals as goal

pub returns-in-Some : goal.returns-in-Some
returns-in-Some c =
    let k = c.args.rank in
    let e = c.in-Some.ending.now in
    let told : slice_get c.args.looks.now.ends.items k ≡ Some e =
    ap (λ xs. slice_get xs k) (sym c.deref.ensures.value) ∙ slice_get-get_or c.deref.result.now k e c.in-Some.ensures.lookup.3.0 ∙ ap Some (sym c.in-Some.ensures.lookup.1) in
    on_ok_weaker c.put_end.result (λ w. w ∙ ap (λ o. with_lines c.args.out.now.items (ending_lines c.args.layout.now k c.args.x c.args.name.now o)) (sym told)) c.put_end.ensures

pub returns-in-None : goal.returns-in-None
returns-in-None c =
    let k = c.args.rank in
    let told : slice_get c.args.looks.now.ends.items k ≡ None = ap (λ xs. slice_get xs k) (sym c.deref.ensures.value) ∙ slice_get_past c.deref.result.now k c.in-None.ensures.lookup.3 in
    ap (λ o. with_lines c.args.out.now.items (ending_lines c.args.layout.now k c.args.x c.args.name.now o)) (sym told)
