use Rattle.std.proofs.Common.{◌≡◌, ◌<◌, sym, subst, arith}
use Rattle.tau_trace.specs.Run.{Run, len}
use Rattle.tau_cut.specs.Inner.Checkpoints.{AddsCheckpoint, AreCheckpoints}
use Rattle.tau_cut.proofs.KeepLemmas.{checkpoints_none, checkpoints_on}
use Rattle.tau_cut.proofs.keeping.checkpoints_in.Goals as goal

pub loop-place-init : goal.loop-place-init
loop-place-init c = checkpoints_none c.args.trace.now.run c.new-places.result.items c.new-points.result.items c.new-places.ensures.items c.new-points.ensures.items

pub push_checkpoint-requires : goal.push_checkpoint-requires
push_checkpoint-requires c = subst (λ (R : Run). c.loop-place.place < len R) (sym c.requires) (omega (arith, c.loop-place-test.true, c.len-place-end.ensures.len))

pub loop-place-preserved : goal.loop-place-preserved
loop-place-preserved c =
    let adds = subst (λ (R : Run). AddsCheckpoint R c.loop-place.place c.loop-place.places.items c.push_checkpoint.new.places.items c.loop-place.points.items c.push_checkpoint.new.points.items) c.requires c.in_ok-push_checkpoint.ensures in
    checkpoints_on c.args.trace.now.run c.loop-place.place c.loop-place.places.items c.push_checkpoint.new.places.items c.loop-place.points.items c.push_checkpoint.new.points.items c.loop-place.invariant adds

pub returns-clause-told : goal.returns-clause-told
returns-clause-told c =
    let T = c.args.trace.now.run in
    let all : c.loop-place.place ≡ len T = omega (arith, c.loop-place-test.false, c.loop-place.auto.place-end, c.len-place-end.ensures.len) in
    subst (λ n. AreCheckpoints T n c.loop-place.places.items c.loop-place.points.items) all c.loop-place.invariant
