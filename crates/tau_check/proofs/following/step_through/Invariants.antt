use Rattle.tau_check.specs.Inner.Checkers.{HasCome}
use Rattle.tau_check.proofs.following.step_through.Given as goal

abbrev pub invariant-loop-place : goal.invariant-loop-place
invariant-loop-place l = HasCome l.program l.trace.run l.place l.checker.legal.system l.checker.jobs.items
