use Rattle.std.proofs.Common.{arith, subst, ◌≡◌, List}
use Rattle.tau_points.specs.declared.point.Point.{Point}
use Rattle.tau_explain.specs.Inner.Causes.{AddsUnfirm}
use Rattle.tau_explain.proofs.CauseLemmas.{candidates_none, candidates_more, candidates_all}
use Rattle.tau_explain.proofs.causes.unfirm_points.Goals as goal

pub loop-place-init : goal.loop-place-init
loop-place-init c = candidates_none c.args.index.now c.args.marks.now c.args.own c.args.fallen.now c.args.stable.now c.push_unfirm.new.points.items
    (subst (λ (l : List Point). AddsUnfirm c.args.fallen.now c.args.stable.now (λ q. q ≡ c.args.own) l c.push_unfirm.new.points.items) c.new-points.ensures.items c.in_ok-push_unfirm.ensures)

pub loop-place-preserved : goal.loop-place-preserved
loop-place-preserved c = candidates_more c.args.index.now c.args.marks.now c.args.own c.loop-place.place c.args.fallen.now c.args.stable.now c.loop-place.points.items c.push_made.new.points.items c.loop-place.invariant c.in_ok-push_made.ensures

pub returns-clause-unfirm : goal.returns-clause-unfirm
returns-clause-unfirm c = (candidates_all c.args.index.now c.args.marks.now c.args.own c.loop-place.place c.args.fallen.now c.args.stable.now c.loop-place.points.items (omega (arith, c.requires, c.loop-place-test.false, c.len-place-end.ensures)) c.loop-place.invariant).0

pub returns-clause-others : goal.returns-clause-others
returns-clause-others c = (candidates_all c.args.index.now c.args.marks.now c.args.own c.loop-place.place c.args.fallen.now c.args.stable.now c.loop-place.points.items (omega (arith, c.requires, c.loop-place-test.false, c.len-place-end.ensures)) c.loop-place.invariant).1
