use Rattle.tau_svg.specs.Shapes.Each.{EachPlace, Writes}
use Rattle.tau_drawing.specs.Messages.Messages.{IsMessageLine}
use Rattle.tau_drawing.proofs.messages.messages.put_messages.Given as goal

abbrev pub invariant-loop-place : goal.invariant-loop-place
invariant-loop-place l = Writes (EachPlace (IsMessageLine l.program l.trace.run l.layout) l.layout.window.from l.place) l.initial.out.items l.out.items
