use Rattle.tau_trace.proofs.Prefix.{prefix}
use Rattle.tau_states.specs.Opening.{opening_states}
use Rattle.tau_states.specs.Table.{Holds}
use Rattle.tau_cut.specs.Inner.Keeping.{AreKept}
use Rattle.tau_cut.proofs.states.states_kept.Given as goal

abbrev pub invariant-loop-place : goal.invariant-loop-place
invariant-loop-place l = record {
  holds : Holds (prefix l.trace.run l.place) (opening_states l.fn.starts) l.states.records;
  kept : AreKept l.trace.run (opening_states l.fn.starts) l.marks l.place l.kept.items;
}
