use Rattle.tau_storm.proofs.ClaimLemmas.{KeptBelow}
use Rattle.tau_storm.proofs.claims.kept_values.Given as goal

abbrev pub invariant-loop-who : goal.invariant-loop-who
invariant-loop-who l = KeptBelow l.end.kept l.who l.values
