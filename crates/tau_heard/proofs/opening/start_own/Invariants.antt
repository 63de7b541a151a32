use Rattle.tau_heard.specs.Opened.{AreStartOwn}
use Rattle.tau_heard.proofs.opening.start_own.Given as goal

abbrev pub invariant-loop-start : goal.invariant-loop-start
invariant-loop-start l = AreStartOwn l.own.items l._start
