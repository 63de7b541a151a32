use Rattle.std.proofs.Common.{take}
use Rattle.tau_svg.specs.Shapes.Each.{EachItem, Writes}
use Rattle.tau_drawing.specs.States.StateLines.{IsStateAt}
use Rattle.tau_drawing.proofs.states.states.put_all.Given as goal

abbrev pub invariant-loop-seen : goal.invariant-loop-seen
invariant-loop-seen l = Writes (EachItem (IsStateAt l.trace.run l.layout l.x) (take l.seen-index l.all)) l.fn.out.items l.out.items
