use Rattle.tau_past.specs.Tables.{Lists, TellsHistory}
use Rattle.tau_past.proofs.index.opening_histories.Given as goal

abbrev pub invariant-loop-who : goal.invariant-loop-who
invariant-loop-who l = Lists l.who (TellsHistory l.trace.run 0) l.histories.items
