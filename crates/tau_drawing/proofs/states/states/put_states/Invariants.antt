use Rattle.tau_svg.specs.Shapes.Each.{EachPlace, Writes}
use Rattle.tau_drawing.specs.States.StateLines.{AreStatesAt}
use Rattle.tau_drawing.proofs.states.states.put_states.Given as goal

abbrev pub invariant-loop-rank : goal.invariant-loop-rank
invariant-loop-rank l = Writes (EachPlace (AreStatesAt l.trace.run l.layout l.looks) 0 l.rank) l.fn.out.items l.out.items
