use Rattle.std.proofs.Common.{◌≡◌, subst, arith}
use Rattle.tau_points.specs.Members.{AddsAll}
use Rattle.tau_scene.specs.Causes.Inner.Resting.{ChecksBetween}
use Rattle.tau_scene.proofs.Collecting.{checks_none, checks_next}
use Rattle.tau_scene.proofs.causes.asking.push_checkpoints.Goals as goal

pub loop-place-init : goal.loop-place-init
loop-place-init c = record { least = omega arith; asked = checks_none c.args.index.now c.args.window.from c.args.window.from c.args.points.now.items (omega arith) }

pub loop-place-preserved : goal.loop-place-preserved
loop-place-preserved c = record {
  least = omega (arith, c.loop-place.invariant.least);
  asked = checks_next c.args.index.now c.args.window.from c.loop-place.place c.args.points.now.items c.loop-place.points.items c.push_checkpoint.new.points.items c.loop-place.invariant.least c.loop-place.invariant.asked c.in_ok-push_checkpoint.ensures;
}

pub returns : goal.returns
returns c =
    let all : c.loop-place.place ≡ c.args.window.to = omega (arith, c.loop-place-test.false, c.loop-place.auto.place-end, c.requires.ordered) in
    subst (λ n. AddsAll (ChecksBetween c.args.index.now c.args.window.from n) c.args.points.now.items c.loop-place.points.items) all c.loop-place.invariant.asked
