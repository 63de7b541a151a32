use Rattle.tau_scene.specs.Causes.Inner.Resting.{AreSourced}
use Rattle.tau_scene.proofs.causes.sources.sourced_lane.Given as goal

abbrev pub invariant-loop-state : goal.invariant-loop-state
invariant-loop-state l = AreSourced l.index l.states l.state-index l.sourced.items
