use Rattle.tau_scene.specs.Causes.Inner.Resting.{AreLanesSourced}
use Rattle.tau_scene.proofs.causes.sources.sourced_lanes.Given as goal

abbrev pub invariant-loop-states : goal.invariant-loop-states
invariant-loop-states l = AreLanesSourced l.index l.lanes l.states-index l.sourced.items
