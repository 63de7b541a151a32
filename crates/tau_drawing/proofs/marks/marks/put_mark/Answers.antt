use Rattle.std.proofs.Common.{◌-◌, [], ◌∷◌, refl, sym, ap, ◌∙◌}
use Rattle.std.specs.Prelude.{slice_get}
use Rattle.tau_svg.proofs.Writing.{these}
use Rattle.tau_drawing.specs.Marks.Marks.{mark_line, IsMark}
use Rattle.tau_drawing.proofs.marks.marks.put_mark.Goals as goal

pub returns : goal.returns
returns c =
    let at = c.spot_at-at.result in
    let look = c.in-Some.look.now in
    let here = ap (λ v. slice_get c.args.looks.now (c.args.place - v.from)) (sym c.window.ensures.window) ∙ sym c.in-Some.ensures.look in
    these (IsMark c.args.trace.now.run c.args.layout.now c.args.looks.now c.args.place) c.args.out.now.items c.put_line.new.out.items (mark_line c.args.trace.now.run c.args.place look at ∷ []) (look, at, here, c.spot_at-at.ensures.spot, refl) c.in_ok-put_line.ensures
