use Rattle.std.proofs.Common.{◌≡◌, ◌<◌, ◌∙◌, length, All, List, Some, ap, sym, subst, arith}
use Rattle.std.specs.Prelude.{slice_get}
use Rattle.std.specs.declared.alloc.Global.{Global}
use Rattle.std.specs.declared.vec.Vec.{Vec}
use Rattle.std.proofs.lemmas.Option.{slice_get-get_or}
use Rattle.tau_scene.specs.declared.timelines.states.State.{State}
use Rattle.tau_scene.specs.Timelines.States.{IsState}
use Rattle.tau_scene.specs.Causes.Inner.Resting.{AreSourced}
use Rattle.tau_scene.proofs.SourceLemmas.{lane_all_states, lanes_sourced_next}
use Rattle.tau_scene.proofs.causes.sources.sourced_lanes.Goals as goal

pub sourced_lane-requires-clause-states : goal.sourced_lane-requires-clause-states
sourced_lane-requires-clause-states c =
    let lt : c.loop-states.states-index < length c.args.lanes.now = omega (arith, c.loop-states-test.true) in
    let at : slice_get c.args.lanes.now c.loop-states.states-index ≡ Some c.states-item.result = slice_get-get_or c.args.lanes.now c.loop-states.states-index c.states-item.result lt ∙ ap (λ (v : Vec State Global). Some v) (sym c.states-item.is) in
    subst (λ (l : List State). All (IsState c.args.index.now) l) (sym c.deref.ensures.value) (lane_all_states c.args.index.now c.requires.states.0 c.args.lanes.now c.loop-states.states-index c.states-item.result c.requires.states.1 at)

pub loop-states-preserved : goal.loop-states-preserved
loop-states-preserved c =
    let lt : c.loop-states.states-index < length c.args.lanes.now = omega (arith, c.loop-states-test.true) in
    let at : slice_get c.args.lanes.now c.loop-states.states-index ≡ Some c.states-item.result = slice_get-get_or c.args.lanes.now c.loop-states.states-index c.states-item.result lt ∙ ap (λ (v : Vec State Global). Some v) (sym c.states-item.is) in
    lanes_sourced_next c.args.index.now c.args.lanes.now c.loop-states.states-index c.states-item.result c.in_ok-sourced_lane.field-0 c.loop-states.sourced.items c.push.new.self.items c.loop-states.invariant c.in_ok-push.ensures.items at
    (subst (λ (l : List State). AreSourced c.args.index.now l (length l) c.in_ok-sourced_lane.field-0.items) c.deref.ensures.value c.in_ok-sourced_lane.ensures)
