use Rattle.tau_states.specs.Opening.{opening_states}
use Rattle.tau_storm.proofs.ClaimLemmas.{SavedBelow}
use Rattle.tau_storm.proofs.claims.saved_values.Given as goal

abbrev pub invariant-loop-who : goal.invariant-loop-who
invariant-loop-who l = SavedBelow l.trace.run (opening_states l.program.starts) l.who l.values
