use Rattle.tau_svg.specs.Shapes.Each.{EachPlace, Writes}
use Rattle.tau_drawing.specs.States.StripLines.{IsTick}
use Rattle.tau_drawing.proofs.states.ticks.put_ticks.Given as goal

abbrev pub invariant-loop-place : goal.invariant-loop-place
invariant-loop-place l = Writes (EachPlace (IsTick l.trace.run l.layout l.looks) l.layout.window.from l.place) l.fn.out.items l.out.items
