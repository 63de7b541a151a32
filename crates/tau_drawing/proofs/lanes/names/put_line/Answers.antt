use Rattle.std.proofs.Common.{◌∙◌, ap, arith, get_or}
use Rattle.tau_svg.specs.Markup.Lines.{with_lines}
use Rattle.tau_value.specs.Written.{name_written}
use Rattle.tau_trace.specs.declared.opening.Opening.{Opening}
use Rattle.tau_svg.specs.declared.shapes.grid.Grid.{Grid}
use Rattle.tau_layout.specs.declared.columns.Column.{Column}
use Rattle.tau_layout.specs.Plans.{grid}
use Rattle.tau_svg.proofs.Writing.{places_first}
use Rattle.tau_drawing.specs.Lanes.NameLines.{IsNamed, named_lines, names_foot}
use Rattle.tau_drawing.proofs.ColumnLanes.{left, right}
use Rattle.tau_drawing.proofs.NameLemmas.{names_next}
use Rattle.tau_drawing.proofs.lanes.names.put_line.Goals as goal

pub loop-column-init : goal.loop-column-init
loop-column-init c = places_first (IsNamed c.args.trace.now.run c.args.layout.now c.args.rows) 0 c.args.out.now.items

pub put_named-requires-clause-left : goal.put_named-requires-clause-left
put_named-requires-clause-left c =
    left c.args.layout.now c.columns-column-items.result.now c.columns-column-items.ensures.lanes c.columns-column-items.ensures.columns c.loop-column.column-index (record { who = 0; node = 0; x = 0 }) (omega (arith, c.loop-column-test.true))

pub put_named-requires-clause-right : goal.put_named-requires-clause-right
put_named-requires-clause-right c =
    right c.args.layout.now c.columns-column-items.result.now c.columns-column-items.ensures.lanes c.columns-column-items.ensures.columns c.loop-column.column-index (record { who = 0; node = 0; x = 0 }) (omega (arith, c.loop-column-test.true))

pub loop-column-preserved : goal.loop-column-preserved
loop-column-preserved c =
    let plan = c.args.layout.now in
    let columns = c.columns-column-items.result.now in
    let k = c.loop-column.column-index in
    let d : Column = record { who = 0; node = 0; x = 0 } in
    let column = get_or columns k d in
    let out = c.loop-column.out.items in
    let rows = c.args.rows in
    let names = c.opening.result.now.names in
    names_next c.args.trace.now.run plan rows columns k d c.args.out.now.items out c.put_named.new.out.items
    c.columns-column-items.ensures.lanes c.columns-column-items.ensures.columns (omega (arith, c.loop-column-test.true)) c.loop-column.invariant
    (c.in_ok-put_named.ensures
    ∙ ap (λ f. with_lines out (named_lines c.grid-grid.result column.x f (name_written names column.who))) c.names_foot-foot.ensures.foot
    ∙ ap (λ (g : Grid). with_lines out (named_lines g column.x (names_foot g rows) (name_written names column.who))) c.grid-grid.ensures.grid
    ∙ ap (λ (o : Opening). with_lines out (named_lines (grid plan) column.x (names_foot (grid plan) rows) (name_written o.names column.who))) c.opening.ensures.value)
