use Rattle.tau_svg.specs.Shapes.Each.{EachPlace, Writes}
use Rattle.tau_drawing.specs.States.EndLines.{IsEndAt}
use Rattle.tau_drawing.proofs.states.ends.put_lanes.Given as goal

abbrev pub invariant-loop-rank : goal.invariant-loop-rank
invariant-loop-rank l = Writes (EachPlace (IsEndAt l.names l.layout l.looks) 0 l.rank) l.fn.out.items l.out.items
