use Rattle.std.proofs.Common.{◌<◌, ◌∙◌, sym, ap, arith}
use Rattle.tau_svg.specs.declared.shapes.grid.Grid.{Grid}
use Rattle.tau_svg.proofs.Writing.{nothing, told_as}
use Rattle.tau_layout.specs.Plans.{grid}
use Rattle.tau_drawing.specs.States.StripLines.{IsStrip, AreStripLines, with_strip, without}
use Rattle.tau_drawing.proofs.states.strip.put_strip.Goals as goal

pub returns-then-grid-eq0 : goal.returns-then-grid-eq0
returns-then-grid-eq0 c =
    nothing (AreStripLines c.args.trace.now.run c.args.layout.now c.args.looks.now) c.args.out.now.items (without (ap (λ (g : Grid). g.over) (sym c.grid.ensures.grid) ∙ c.if-grid-eq0.true))

pub returns : goal.returns
returns c =
    let T = c.args.trace.now.run in
    let plan = c.args.layout.now in
    let some : 0 < (grid plan).over = omega (arith, c.if-grid-eq0.false, ap (λ (g : Grid). g.over) c.grid.ensures.grid) in
    told_as (IsStrip T plan c.args.looks.now) (AreStripLines T plan c.args.looks.now) c.args.out.now.items c.put_whole.new.out.items (λ ls s. with_strip some s) c.in_ok-put_whole.ensures
