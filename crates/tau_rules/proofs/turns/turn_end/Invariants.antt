use Rattle.std.proofs.Common.{◌<◌}
use Rattle.tau_rules.proofs.ActLemmas.{IsUnbounded}
use Rattle.tau_rules.proofs.turns.turn_end.Given as goal

abbrev pub invariant-loop-place : goal.invariant-loop-place
invariant-loop-place l = (l.turn < l.place) × IsUnbounded l.trace.run l.who l.turn l.place
