use Rattle.tau_text.specs.Inner.Written.{AddsSteps}
use Rattle.tau_text.proofs.forms.add_steps.Given as goal

abbrev pub invariant-loop-place : goal.invariant-loop-place
invariant-loop-place l = AddsSteps l.trace.run l.place l.initial.text.items l.text.items
