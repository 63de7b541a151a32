use Rattle.tau_states.specs.Opening.{opening_states}
use Rattle.tau_states.specs.Table.{Holds}
use Rattle.tau_scene.specs.Notes.Inner.Noting.{first_steps}
use Rattle.tau_scene.proofs.notes.steps.states_behind.Given as goal

abbrev pub invariant-loop-place : goal.invariant-loop-place
invariant-loop-place l = Holds (first_steps l.trace.run l.place) (opening_states l.fn.starts) l.states.records
