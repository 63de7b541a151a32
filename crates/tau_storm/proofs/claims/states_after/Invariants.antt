use Rattle.tau_trace.proofs.Prefix.{prefix}
use Rattle.tau_states.specs.Opening.{opening_states}
use Rattle.tau_states.specs.Table.{Holds as HasStates}
use Rattle.tau_storm.proofs.claims.states_after.Given as goal

abbrev pub invariant-loop-place : goal.invariant-loop-place
invariant-loop-place l = HasStates (prefix l.trace.run l.place) (opening_states l.starts) l.states.records
