use Rattle.std.proofs.Common.{◌-◌, [], ◌∷◌, refl, sym, ap, ◌∙◌}
use Rattle.std.specs.Prelude.{slice_get}
use Rattle.tau_svg.specs.Markup.Lines.{with_line}
use Rattle.tau_svg.proofs.Writing.{these}
use Rattle.tau_drawing.specs.Marks.Rows.{place_line, row_line, IsRow}
use Rattle.tau_drawing.proofs.marks.rows.put_row.Goals as goal

pub returns : goal.returns
returns c =
    let T = c.args.trace.now.run in
    let k = c.args.place in
    let at = c.spot_at-at.result in
    let look = c.in-Some.look.now in
    let here = ap (λ v. slice_get c.args.looks.now (k - v.from)) (sym c.window.ensures.window) ∙ sym c.in-Some.ensures.look in
    let text = row_line T k look at in
    these (IsRow T c.args.layout.now c.args.looks.now k) c.args.out.now.items c.put_text.new.out.items (place_line k at ∷ text ∷ []) (look, at, here, c.spot_at-at.ensures.spot, refl) (c.in_ok-put_text.ensures ∙ ap (λ z. with_line z text) c.in_ok-put_place.ensures)
