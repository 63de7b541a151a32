use Rattle.std.proofs.Common.{◌<◌, length, refl, arith}
use Rattle.std.proofs.lemmas.Option.{slice_get-get_or}
use Rattle.tau_scene.proofs.SourceLemmas.{sourced_next}
use Rattle.tau_scene.proofs.causes.sources.sourced_lane.Goals as goal

pub loop-state-preserved : goal.loop-state-preserved
loop-state-preserved c =
    let lt : c.loop-state.state-index < length c.args.states.now = omega (arith, c.loop-state-test.true) in
    sourced_next c.args.index.now c.args.states.now c.loop-state.state-index _ _ c.loop-state.sourced.items c.push.new.self.items c.loop-state.invariant c.in_ok-push.ensures.items
    (slice_get-get_or c.args.states.now c.loop-state.state-index _ lt) (record { state_is = refl; source_is = c.source_of.ensures })
