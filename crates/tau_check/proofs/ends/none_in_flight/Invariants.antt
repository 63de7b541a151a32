use Rattle.tau_check.proofs.EndLemmas.{NoneInFlightBelow}
use Rattle.tau_check.proofs.ends.none_in_flight.Given as goal

abbrev pub invariant-loop-message : goal.invariant-loop-message
invariant-loop-message l = NoneInFlightBelow l.trace.run l.message
