use Rattle.std.proofs.Common.{◌≤◌}
use Rattle.tau_points.specs.Members.{AddsAll}
use Rattle.tau_scene.specs.Causes.Inner.Resting.{ChecksBetween}
use Rattle.tau_scene.proofs.causes.asking.push_checkpoints.Given as goal

abbrev pub invariant-loop-place : goal.invariant-loop-place
invariant-loop-place l = record {
  least : l.fn.window.from ≤ l.place;
  asked : AddsAll (ChecksBetween l.index l.fn.window.from l.place) l.initial.points.items l.points.items;
}
