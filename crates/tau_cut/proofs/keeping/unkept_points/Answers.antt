use Rattle.std.proofs.Common.{◌≡◌, subst, arith}
use Rattle.tau_trace.specs.Run.{len}
use Rattle.tau_cut.specs.Inner.Checkpoints.{AreUnkept}
use Rattle.tau_cut.proofs.KeepLemmas.{unkept_none, unkept_more}
use Rattle.tau_cut.proofs.keeping.unkept_points.Goals as goal

pub loop-place-init : goal.loop-place-init
loop-place-init c = unkept_none c.args.index.now c.args.kept.now c.new-points.result.items c.new-points.ensures.items

pub loop-place-preserved : goal.loop-place-preserved
loop-place-preserved c = unkept_more c.args.index.now c.args.kept.now c.loop-place.place c.loop-place.points.items c.push_unkept.new.points.items c.loop-place.invariant c.in_ok-push_unkept.ensures

pub returns : goal.returns
returns c =
    let all : c.loop-place.place ≡ len c.args.index.now = omega (arith, c.loop-place-test.false, c.loop-place.auto.place-end, c.len-place-end.ensures) in
    subst (λ n. AreUnkept c.args.index.now c.args.kept.now n c.loop-place.points.items) all c.loop-place.invariant
