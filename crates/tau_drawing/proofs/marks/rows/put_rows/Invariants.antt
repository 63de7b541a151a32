use Rattle.tau_svg.specs.Shapes.Each.{EachPlace, Writes}
use Rattle.tau_drawing.specs.Marks.Rows.{IsRow}
use Rattle.tau_drawing.proofs.marks.rows.put_rows.Given as goal

abbrev pub invariant-loop-place : goal.invariant-loop-place
invariant-loop-place l = Writes (EachPlace (IsRow l.trace.run l.layout l.looks.steps.items) l.layout.window.from l.place) l.initial.out.items l.out.items
