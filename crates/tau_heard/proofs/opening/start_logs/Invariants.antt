use Rattle.tau_heard.specs.Opened.{AreStartLogs}
use Rattle.tau_heard.proofs.opening.start_logs.Given as goal

abbrev pub invariant-loop-start : goal.invariant-loop-start
invariant-loop-start l = AreStartLogs l.logs.items l._start
