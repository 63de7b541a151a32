use Rattle.tau_scene.specs.Timelines.Inner.Courses.{AreSeen}
use Rattle.tau_scene.proofs.timelines.states.seen.Given as goal

abbrev pub invariant-loop-course : goal.invariant-loop-course
invariant-loop-course l = AreSeen l.fn.window l.courses l.course-index l.all.items
