use Rattle.tau_points.specs.Members.{AddsAll}
use Rattle.tau_scene.specs.Causes.Inner.Resting.{AsksIn}
use Rattle.tau_scene.proofs.causes.asking.push_sources.Given as goal

abbrev pub invariant-loop-sourced : goal.invariant-loop-sourced
invariant-loop-sourced l = AddsAll (AsksIn l.lane l.sourced-index) l.initial.points.items l.points.items
