use Rattle.std.proofs.Common.{◌<◌, ◌∙◌, List, Some, length, ap, sym, subst, arith}
use Rattle.std.specs.declared.alloc.Global.{Global}
use Rattle.std.specs.declared.vec.Vec.{Vec}
use Rattle.std.proofs.lemmas.Option.{slice_get-get_or}
use Rattle.tau_scene.specs.declared.causes.sources.Sourced.{Sourced}
use Rattle.tau_scene.specs.Causes.Inner.Showing.{AreShown}
use Rattle.tau_scene.proofs.Showing.{lanes_shown_next}
use Rattle.tau_scene.proofs.causes.grounds.Grounds.seen_lanes.Goals as goal

pub loop-lane-preserved : goal.loop-lane-preserved
loop-lane-preserved c =
    let T = c.args.trace.now.run in
    let lt : c.loop-lane.lane-index < length c.args.lanes.now = omega (arith, c.loop-lane-test.true) in
    lanes_shown_next T c.args.self.now.fallen c.args.self.now.kept.items c.args.self.now.resting c.args.lanes.now c.loop-lane.lane-index c.lane-item.result c.in_ok-seen_lane.field-0 c.loop-lane.seen.items c.push.new.self.items c.loop-lane.invariant c.in_ok-push.ensures.items
    (slice_get-get_or c.args.lanes.now c.loop-lane.lane-index c.lane-item.result lt ∙ ap (λ (v : Vec Sourced Global). Some v) (sym c.lane-item.is))
    (subst (λ (l : List Sourced). AreShown T c.args.self.now.fallen c.args.self.now.kept.items c.args.self.now.resting l (length l) c.in_ok-seen_lane.field-0.items) c.deref.ensures.value c.in_ok-seen_lane.ensures)
