use Rattle.tau_svg.specs.Shapes.Each.{EachPlace, Writes}
use Rattle.tau_drawing.specs.Lanes.NameLines.{IsNamesLine}
use Rattle.tau_drawing.proofs.lanes.names.put_names.Given as goal

abbrev pub invariant-loop-number : goal.invariant-loop-number
invariant-loop-number l = Writes (EachPlace (IsNamesLine l.trace.run l.layout) 1 l.number) l.fn.out.items l.out.items
