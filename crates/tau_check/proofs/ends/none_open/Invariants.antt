use Rattle.tau_check.proofs.EndLemmas.{NoneOpenBelow}
use Rattle.tau_check.proofs.ends.none_open.Given as goal

abbrev pub invariant-loop-who : goal.invariant-loop-who
invariant-loop-who l = NoneOpenBelow l.trace.run l.who
