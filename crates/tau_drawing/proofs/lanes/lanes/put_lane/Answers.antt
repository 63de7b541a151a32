use Rattle.std.proofs.Common.{◌∙◌, ap, subst}
use Rattle.tau_value.specs.Written.{name_written}
use Rattle.tau_past.specs.Tables.{IsBirth}
use Rattle.tau_trace.specs.Run.{Run}
use Rattle.tau_trace.specs.declared.opening.Opening.{Opening}
use Rattle.tau_layout.specs.Inner.Laying.{lane_of}
use Rattle.tau_svg.specs.Markup.Lines.{with_line}
use Rattle.tau_drawing.specs.Lanes.LaneLines.{top_name, axis_line, axis_top}
use Rattle.tau_drawing.proofs.LaneLemmas.{lane_told}
use Rattle.tau_drawing.proofs.lanes.lanes.put_lane.Goals as goal

pub returns : goal.returns
returns c =
    let T = c.args.trace.now.run in
    let column = c.args.column in
    let named = c.put_name.new.out.items in
    lane_told T c.args.layout.now column.x (lane_of column) c.birth_of.result c.end_of.result c.in_ok-name.name.items c.args.out.now.items c.put_name.new.out.items c.put_axis.new.out.items
    (subst (λ (U : Run). IsBirth U column.who c.birth_of.result) c.requires.index c.birth_of.ensures)
    c.end_of.ensures
    (c.in_ok-name.ensures ∙ ap (λ (o : Opening). name_written o.names column.who) c.opening.ensures.value)
    (c.in_ok-put_name.ensures ∙ ap (λ s. with_line c.args.out.now.items (top_name c.grid-grid.result column.x s)) c.deref.ensures.value ∙ ap (λ g. with_line c.args.out.now.items (top_name g column.x c.in_ok-name.name.items)) c.grid-grid.ensures.grid)
    (c.in_ok-put_axis.ensures ∙ ap (λ s. with_line named (axis_line column.x c.axis_top-top.result c.axis_foot-foot.result s column.node)) c.deref-2.ensures.value
    ∙ ap (λ a. with_line named (axis_line column.x a c.axis_foot-foot.result c.in_ok-name.name.items column.node)) c.axis_top-top.ensures
    ∙ ap (λ b. with_line named (axis_line column.x (axis_top c.args.layout.now c.birth_of.result) b c.in_ok-name.name.items column.node)) c.axis_foot-foot.ensures)
