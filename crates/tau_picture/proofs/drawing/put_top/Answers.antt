use Rattle.std.proofs.Common.{◌∙◌, ap}
use Rattle.tau_svg.specs.Markup.Lines.{with_lines}
use Rattle.tau_svg.specs.declared.shapes.window.Window.{Window}
use Rattle.tau_picture.specs.Headings.{heading_lines}
use Rattle.tau_picture.specs.Pictures.{begin_lines, said_lines}
use Rattle.tau_picture.specs.Inner.Asked.{place_asked, cause_asked}
use Rattle.tau_picture.proofs.Joins.{three_parts}
use Rattle.tau_picture.proofs.drawing.put_top.Goals as goal

pub returns-clause-lines : goal.returns-clause-lines
returns-clause-lines c =
    let T = c.args.trace.now.run in
    let plan = c.args.layout.now in
    let cut = c.args.cut.now in
    let a = c.args.asked.now in
    let o1 = c.put_begin_lines.new.out.items in
    three_parts (begin_lines T plan) (heading_lines T plan.window cut) (said_lines T (place_asked a) (cause_asked a)) c.args.out.now.items o1 c.put_heading.new.out.items c.put_asked.new.out.items
    c.in_ok-put_begin_lines.ensures.lines
    (c.in_ok-put_heading.ensures ∙ ap (λ (v : Window). with_lines o1 (heading_lines T v cut)) c.window.ensures.window)
    c.in_ok-put_asked.ensures
