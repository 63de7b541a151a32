use Rattle.tau_svg.specs.Shapes.Each.{EachPlace, Writes}
use Rattle.tau_drawing.specs.Lanes.NameLines.{IsNamed}
use Rattle.tau_drawing.proofs.lanes.names.put_line.Given as goal

abbrev pub invariant-loop-column : goal.invariant-loop-column
invariant-loop-column l = Writes (EachPlace (IsNamed l.trace.run l.layout l.rows) 0 l.column-index) l.fn.out.items l.out.items
