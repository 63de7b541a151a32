use Rattle.std.proofs.Common.{arith, subst, sym, List, ◌↔◌}
use Rattle.std.specs.Prelude.{Contains}
use Rattle.std.proofs.lemmas.Result.{IfOk-weaker}
use Rattle.tau_points.specs.declared.point.Point.{Point}
use Rattle.tau_past.specs.Pasts.{FellIn}
use Rattle.tau_past.proofs.Endings.{falls_within}
use Rattle.tau_explain.proofs.PushLemmas.{acts_within}
use Rattle.tau_explain.specs.Inner.Hearing.{IsMarked}
use Rattle.tau_explain.specs.Inner.Causes.{FellAt}
use Rattle.tau_explain.proofs.CauseLemmas.{collects_more, fell_all, members_of}
use Rattle.tau_explain.proofs.causes.fallen_points.Goals as goal

pub loop-place-preserved : goal.loop-place-preserved
loop-place-preserved c = collects_more (FellAt c.args.index.now c.args.marks.now) c.loop-place.place c.loop-place.points.items c.push_fallen.new.points.items c.loop-place.invariant c.in_ok-push_fallen.ensures

pub returns : goal.returns
returns c =
    let T = c.args.index.now in
    let marks = c.args.marks.now in
    let told = fell_all T marks c.loop-place.place c.loop-place.points.items (λ j t a. let lt = acts_within T j t a in omega (arith, lt, c.loop-place-test.false, c.len-place-end.ensures)) (λ j t f. (falls_within T t j f).1) c.loop-place.invariant in
    let read = subst (λ (l : List Point). (q : Point) → Contains l q ↔ FellIn T (IsMarked marks) q) (sym c.deref.ensures.value) told in
    IfOk-weaker c.from_slice.result _ _ (λ set same. members_of c.deref.result.now set (FellIn T (IsMarked marks)) same read) c.from_slice.ensures.members
