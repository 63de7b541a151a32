use Rattle.tau_scene.specs.Causes.Inner.Resting.{AsksInLanes, ChecksBetween}
use Rattle.std.proofs.Common.{length}
use Rattle.tau_scene.proofs.Collecting.{asked_both}
use Rattle.tau_scene.proofs.causes.shown.asked.Goals as goal

pub returns : goal.returns
returns c = asked_both (AsksInLanes c.args.lanes.now (length c.args.lanes.now)) (ChecksBetween c.args.index.now c.args.window.from c.args.window.to) c.new-points.result.items c.push_lanes.new.points.items c.push_checkpoints.new.points.items c.new-points.ensures.items c.in_ok-push_lanes.ensures c.in_ok-push_checkpoints.ensures
