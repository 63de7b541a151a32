use Rattle.std.proofs.Common.{arith, subst, sym, List, ◌↔◌}
use Rattle.std.specs.Prelude.{Contains}
use Rattle.std.proofs.lemmas.Result.{IfOk-weaker}
use Rattle.tau_points.specs.declared.point.Point.{Point}
use Rattle.tau_past.specs.Audits.{RollsBackAt}
use Rattle.tau_past.specs.Safety.{RolledBack}
use Rattle.tau_explain.proofs.CauseLemmas.{collects_more, members_of}
use Rattle.tau_scene.proofs.Collecting.{fallen_all}
use Rattle.tau_scene.proofs.causes.fallen.fallen_points.Goals as goal

pub loop-place-preserved : goal.loop-place-preserved
loop-place-preserved c = collects_more (λ j p. RollsBackAt c.args.index.now p j) c.loop-place.place c.loop-place.points.items c.push_fallen.new.points.items c.loop-place.invariant c.in_ok-push_fallen.ensures

pub returns : goal.returns
returns c =
    let T = c.args.index.now in
    let told = fallen_all T c.loop-place.place c.loop-place.points.items (omega (arith, c.loop-place-test.false, c.len-place-end.ensures)) c.loop-place.invariant in
    let read = subst (λ (l : List Point). (q : Point) → Contains l q ↔ RolledBack T q) (sym c.deref.ensures.value) told in
    IfOk-weaker c.from_slice.result _ _ (λ set same. members_of c.deref.result.now set (RolledBack T) same read) c.from_slice.ensures.members
