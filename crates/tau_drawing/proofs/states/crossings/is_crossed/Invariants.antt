use Rattle.tau_drawing.proofs.Crossings.{NoneBefore}
use Rattle.tau_drawing.proofs.states.crossings.is_crossed.Given as goal

abbrev pub invariant-loop-place : goal.invariant-loop-place
invariant-loop-place l = NoneBefore l.trace.run l.layout l.state l.place
