use Rattle.std.proofs.Common.{arith, subst, sym, refl, List, ◌↔◌}
use Rattle.std.specs.Prelude.{Contains}
use Rattle.std.proofs.lemmas.Result.{IfOk-weaker}
use Rattle.tau_points.specs.declared.point.Point.{Point}
use Rattle.tau_trace.specs.declared.step.Step.TheVariants.{Stabilize}
use Rattle.tau_trace.proofs.Quiet.{acts}
use Rattle.tau_past.specs.Pasts.{StabilizedIn}
use Rattle.tau_explain.proofs.PushLemmas.{acts_within}
use Rattle.tau_explain.specs.Inner.Hearing.{IsMarked}
use Rattle.tau_explain.specs.Inner.Causes.{StabilizedAt}
use Rattle.tau_explain.proofs.CauseLemmas.{collects_more, stable_all, members_of}
use Rattle.tau_explain.proofs.causes.stable_points.Goals as goal

pub loop-place-preserved : goal.loop-place-preserved
loop-place-preserved c = collects_more (StabilizedAt c.args.index.now c.args.marks.now) c.loop-place.place c.loop-place.points.items c.push_stable.new.points.items c.loop-place.invariant c.in_ok-push_stable.ensures

pub returns : goal.returns
returns c =
    let T = c.args.index.now in
    let marks = c.args.marks.now in
    let told = stable_all T marks c.loop-place.place c.loop-place.points.items (λ j t s. let lt = acts_within T j t (acts T t j (Stabilize t) s refl) in omega (arith, lt, c.loop-place-test.false, c.len-place-end.ensures)) c.loop-place.invariant in
    let read = subst (λ (l : List Point). (q : Point) → Contains l q ↔ StabilizedIn T (IsMarked marks) q) (sym c.deref.ensures.value) told in
    IfOk-weaker c.from_slice.result _ _ (λ set same. members_of c.deref.result.now set (StabilizedIn T (IsMarked marks)) same read) c.from_slice.ensures.members
