use Rattle.tau_scene.specs.Timelines.Inner.Courses.{AreCourses}
use Rattle.tau_scene.proofs.timelines.states.states_in.Given as goal

abbrev pub invariant-loop-place : goal.invariant-loop-place
invariant-loop-place l = AreCourses l.trace.run l.layout l.place l.courses.items
