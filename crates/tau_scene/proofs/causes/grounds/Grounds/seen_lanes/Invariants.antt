use Rattle.tau_scene.specs.Causes.Inner.Showing.{AreLanesShown}
use Rattle.tau_scene.proofs.causes.grounds.Grounds.seen_lanes.Given as goal

abbrev pub invariant-loop-lane : goal.invariant-loop-lane
invariant-loop-lane l = AreLanesShown l.trace.run l.self.fallen l.self.kept.items l.self.resting l.lanes l.lane-index l.seen.items
