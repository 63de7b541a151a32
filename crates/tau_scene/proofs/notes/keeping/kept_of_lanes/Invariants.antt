use Rattle.tau_states.specs.Opening.{opening_states}
use Rattle.tau_states.specs.Table.{Holds}
use Rattle.tau_scene.specs.Notes.Inner.Noting.{first_steps}
use Rattle.tau_scene.specs.Notes.Inner.Keeping.{AreKept}
use Rattle.tau_scene.proofs.notes.keeping.kept_of_lanes.Given as goal

abbrev pub invariant-loop-place : goal.invariant-loop-place
invariant-loop-place l = record {
  holds : Holds (first_steps l.trace.run l.place) (opening_states l.fn.starts) l.states.records;
  kept : AreKept l.trace.run (opening_states l.fn.starts) l.layout.lanes l.marks l.place l.kept.items;
}
