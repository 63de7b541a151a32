use Rattle.tau_svg.specs.Shapes.Each.{EachPlace, Writes}
use Rattle.tau_drawing.specs.Lanes.LaneLines.{IsLane}
use Rattle.tau_drawing.proofs.lanes.lanes.put_lanes.Given as goal

abbrev pub invariant-loop-column : goal.invariant-loop-column
invariant-loop-column l = Writes (EachPlace (IsLane l.trace.run l.layout) 0 l.column-index) l.fn.out.items l.out.items
