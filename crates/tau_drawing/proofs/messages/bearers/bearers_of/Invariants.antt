use Rattle.tau_drawing.specs.Messages.Inner.Bearers.{AreBearers}
use Rattle.tau_drawing.proofs.messages.bearers.bearers_of.Given as goal

abbrev pub invariant-loop-place : goal.invariant-loop-place
invariant-loop-place l = AreBearers l.trace.run l.place l.bearers.items
