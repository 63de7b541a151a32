use Rattle.tau_past.specs.Tables.{Lists, IsBirth}
use Rattle.tau_past.proofs.index.starts_births.Given as goal

abbrev pub invariant-loop-who : goal.invariant-loop-who
invariant-loop-who l = Lists l._who (IsBirth l.trace.run) l.births.items
