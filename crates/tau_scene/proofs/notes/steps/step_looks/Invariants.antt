use Rattle.std.proofs.Common.{◌≤◌}
use Rattle.tau_states.specs.Opening.{opening_states}
use Rattle.tau_states.specs.Table.{Holds}
use Rattle.tau_scene.specs.Notes.Inner.Noting.{first_steps, AreLooksTo}
use Rattle.tau_scene.proofs.notes.steps.step_looks.Given as goal

abbrev pub invariant-loop-place : goal.invariant-loop-place
invariant-loop-place l = record {
  least : l.window.from ≤ l.place;
  holds : Holds (first_steps l.trace.run l.place) (opening_states l.fn.program.starts) l.states.records;
  looks : AreLooksTo l.fn.program l.trace.run l.window.from l.place l.cut l.looks.items;
}
