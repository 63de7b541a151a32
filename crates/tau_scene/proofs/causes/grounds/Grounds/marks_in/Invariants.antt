use Rattle.std.proofs.Common.{◌≤◌, ◌-◌}
use Rattle.tau_scene.specs.Causes.Inner.Showing.{AreMarkedSteps}
use Rattle.tau_scene.proofs.causes.grounds.Grounds.marks_in.Given as goal

abbrev pub invariant-loop-place : goal.invariant-loop-place
invariant-loop-place l = record {
  least : l.fn.window.from ≤ l.place;
  marked : AreMarkedSteps l.trace.run l.self.fallen l.self.kept.items l.self.resting l.fn.window.from (l.place - l.fn.window.from) l.marks.items;
}
