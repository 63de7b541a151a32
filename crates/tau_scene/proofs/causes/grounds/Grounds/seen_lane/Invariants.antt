use Rattle.tau_scene.specs.Causes.Inner.Showing.{AreShown}
use Rattle.tau_scene.proofs.causes.grounds.Grounds.seen_lane.Given as goal

abbrev pub invariant-loop-sourced : goal.invariant-loop-sourced
invariant-loop-sourced l = AreShown l.trace.run l.self.fallen l.self.kept.items l.self.resting l.lane l.sourced-index l.seen.items
