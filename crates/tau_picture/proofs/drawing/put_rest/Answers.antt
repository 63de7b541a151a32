use Rattle.std.proofs.Common.{◌≡◌, ◌∙◌, ◌∷◌, ◌++◌, refl, ap}
use Rattle.tau_svg.specs.Markup.Lines.{with_lines}
use Rattle.tau_svg.specs.declared.shapes.grid.Grid.{Grid}
use Rattle.tau_svg.specs.Shapes.Shapes.{legend_line, end_lines}
use Rattle.tau_svg.specs.Shapes.Fixed.{legend_lines}
use Rattle.tau_svg.proofs.Writing.{these}
use Rattle.tau_picture.specs.Pictures.{key_lines}
use Rattle.tau_picture.proofs.Joins.{rest_parts}
use Rattle.tau_picture.proofs.drawing.put_rest.Goals as goal

pub returns : goal.returns
returns c =
    let plan = c.args.layout.now in
    let before = c.put_ends.new.out.items in
    let key = these (λ ls. ls ≡ key_lines plan) before c.put_legend.new.out.items (key_lines plan) refl (c.in_ok-put_legend.ensures ∙ ap (λ (g : Grid). with_lines before (legend_line g.key ∷ (legend_lines ++ end_lines))) c.grid.ensures.grid) in
    rest_parts c.args.trace.now.run plan c.args.looks.now c.args.asked.now
    c.args.out.now.items c.put_asked_chain.new.out.items c.put_rows.new.out.items before c.put_legend.new.out.items
    c.in_ok-put_asked_chain.ensures c.in_ok-put_rows.ensures c.in_ok-put_ends.ensures key
