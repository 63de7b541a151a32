use Rattle.std.proofs.Common.{◌≡◌, ◌<◌, ◌∙◌, length, ap, List, Some, sym, subst, arith}
use Rattle.std.specs.declared.alloc.Global.{Global}
use Rattle.std.specs.declared.vec.Vec.{Vec}
use Rattle.std.proofs.lemmas.Option.{slice_get-get_or}
use Rattle.tau_points.specs.Members.{AddsAll}
use Rattle.tau_scene.specs.declared.causes.sources.Sourced.{Sourced}
use Rattle.tau_scene.specs.Causes.Inner.Resting.{AsksIn, AsksInLanes}
use Rattle.tau_scene.proofs.Collecting.{lanes_next}
use Rattle.tau_scene.proofs.causes.asking.push_lanes.Goals as goal

pub loop-lane-preserved : goal.loop-lane-preserved
loop-lane-preserved c =
    let lt : c.loop-lane.lane-index < length c.args.lanes.now = omega (arith, c.loop-lane-test.true) in
    lanes_next c.args.lanes.now c.loop-lane.lane-index c.lane-item.result c.args.points.now.items c.loop-lane.points.items c.push_sources.new.points.items
    (slice_get-get_or c.args.lanes.now c.loop-lane.lane-index c.lane-item.result lt ∙ ap (λ (v : Vec Sourced Global). Some v) (sym c.lane-item.is)) c.loop-lane.invariant
    (subst (λ (l : List Sourced). AddsAll (AsksIn l (length l)) c.loop-lane.points.items c.push_sources.new.points.items) c.deref.ensures.value c.in_ok-push_sources.ensures)

pub returns : goal.returns
returns c =
    let all : c.loop-lane.lane-index ≡ length c.args.lanes.now = omega (arith, c.loop-lane-test.false, c.loop-lane.auto.lane-index-end) in
    subst (λ n. AddsAll (AsksInLanes c.args.lanes.now n) c.args.points.now.items c.loop-lane.points.items) all c.loop-lane.invariant
