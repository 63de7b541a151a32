use Rattle.std.proofs.Common.{◌<◌, length, arith}
use Rattle.std.proofs.lemmas.Option.{slice_get-get_or}
use Rattle.tau_scene.proofs.Showing.{shown_next}
use Rattle.tau_scene.proofs.causes.grounds.Grounds.seen_lane.Goals as goal

pub loop-sourced-preserved : goal.loop-sourced-preserved
loop-sourced-preserved c =
    let lt : c.loop-sourced.sourced-index < length c.args.lane.now = omega (arith, c.loop-sourced-test.true) in
    shown_next c.args.trace.now.run c.args.self.now.fallen c.args.self.now.kept.items c.args.self.now.resting c.args.lane.now c.loop-sourced.sourced-index _ _ c.loop-sourced.seen.items c.push.new.self.items c.loop-sourced.invariant c.in_ok-push.ensures.items
    (slice_get-get_or c.args.lane.now c.loop-sourced.sourced-index _ lt) c.in_ok-seen-2.ensures
