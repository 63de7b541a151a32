use Rattle.std.proofs.Common.{◌≡◌, ◌<◌, length, subst, arith}
use Rattle.std.proofs.lemmas.Option.{slice_get-get_or}
use Rattle.tau_points.specs.Members.{AddsAll}
use Rattle.tau_scene.specs.Causes.Inner.Resting.{AsksIn}
use Rattle.tau_scene.proofs.Collecting.{asks_next}
use Rattle.tau_scene.proofs.causes.asking.push_sources.Goals as goal

pub loop-sourced-preserved : goal.loop-sourced-preserved
loop-sourced-preserved c =
    let lt : c.loop-sourced.sourced-index < length c.args.lane.now = omega (arith, c.loop-sourced-test.true) in
    asks_next c.args.lane.now c.loop-sourced.sourced-index _ c.args.points.now.items c.loop-sourced.points.items c.push_source.new.points.items
    (slice_get-get_or c.args.lane.now c.loop-sourced.sourced-index _ lt) c.loop-sourced.invariant c.in_ok-push_source.ensures

pub returns : goal.returns
returns c =
    let all : c.loop-sourced.sourced-index ≡ length c.args.lane.now = omega (arith, c.loop-sourced-test.false, c.loop-sourced.auto.sourced-index-end) in
    subst (λ n. AddsAll (AsksIn c.args.lane.now n) c.args.points.now.items c.loop-sourced.points.items) all c.loop-sourced.invariant
