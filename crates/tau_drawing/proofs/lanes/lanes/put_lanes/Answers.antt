use Rattle.std.proofs.Common.{arith, get_or}
use Rattle.tau_layout.specs.declared.columns.Column.{Column}
use Rattle.tau_layout.specs.Inner.Laying.{lane_of}
use Rattle.tau_layout.proofs.Seen.{lanes_known}
use Rattle.tau_svg.proofs.Writing.{places_first}
use Rattle.tau_drawing.specs.Lanes.LaneLines.{IsLane}
use Rattle.tau_drawing.proofs.ColumnLanes.{lane_at, right}
use Rattle.tau_drawing.proofs.LaneLemmas.{lanes_next}
use Rattle.tau_drawing.proofs.lanes.lanes.put_lanes.Goals as goal

pub loop-column-preserved : goal.loop-column-preserved
loop-column-preserved c =
    let columns = c.columns-column-items.result.now in
    let k = c.loop-column.column-index in
    lanes_next c.args.trace.now.run c.args.layout.now columns k (record { who = 0; node = 0; x = 0 }) c.args.out.now.items c.loop-column.out.items c.put_lane.new.out.items
    c.columns-column-items.ensures.lanes c.columns-column-items.ensures.columns (omega (arith, c.loop-column-test.true)) c.loop-column.invariant c.in_ok-put_lane.ensures

pub loop-column-init : goal.loop-column-init
loop-column-init c = places_first (IsLane c.args.trace.now.run c.args.layout.now) 0 c.args.out.now.items

pub put_lane-requires-clause-exists : goal.put_lane-requires-clause-exists
put_lane-requires-clause-exists c =
    let plan = c.args.layout.now in
    let columns = c.columns-column-items.result.now in
    let k = c.loop-column.column-index in
    let d : Column = record { who = 0; node = 0; x = 0 } in
    lanes_known c.args.trace.now.run plan.window plan.lanes c.requires.well_formed c.requires.plan.lanes_are k (lane_of (get_or columns k d))
    (lane_at plan columns c.columns-column-items.ensures.lanes c.columns-column-items.ensures.columns k d (omega (arith, c.loop-column-test.true)))

pub put_lane-requires-clause-x : goal.put_lane-requires-clause-x
put_lane-requires-clause-x c =
    right c.args.layout.now c.columns-column-items.result.now c.columns-column-items.ensures.lanes c.columns-column-items.ensures.columns c.loop-column.column-index (record { who = 0; node = 0; x = 0 }) (omega (arith, c.loop-column-test.true))
