use Rattle.tau_past.specs.Tables.{Lists, TellsTurn}
use Rattle.tau_past.proofs.index.idle_turns.Given as goal

abbrev pub invariant-loop-who : goal.invariant-loop-who
invariant-loop-who l = Lists l._who (TellsTurn l.trace.run 0) l.turns.items
