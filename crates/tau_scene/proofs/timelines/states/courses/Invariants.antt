use Rattle.tau_scene.specs.Timelines.Inner.Courses.{AreFirst}
use Rattle.tau_scene.proofs.timelines.states.courses.Given as goal

abbrev pub invariant-loop-column : goal.invariant-loop-column
invariant-loop-column l = AreFirst l.trace.run l.layout l.column-index l.all.items
