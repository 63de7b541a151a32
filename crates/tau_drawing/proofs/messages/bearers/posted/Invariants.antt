use Rattle.tau_drawing.specs.Messages.Inner.Bearers.{ArePosted}
use Rattle.tau_drawing.proofs.messages.bearers.posted.Given as goal

abbrev pub invariant-loop-post : goal.invariant-loop-post
invariant-loop-post l = ArePosted l.post l.bearers.items
