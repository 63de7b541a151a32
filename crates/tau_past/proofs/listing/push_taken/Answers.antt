use Rattle.std.proofs.Common.{subst, Option, ℕ}
use Rattle.tau_past.proofs.Listings.{Taking, taking_start, taking_on, taking_end, taking_smaller}
use Rattle.tau_past.proofs.listing.push_taken.Goals as goal

pub loop-next-init : goal.loop-next-init
loop-next-init c = taking_start c.args.index.now c.args.point.now c.args.passed.now c.args.points.now.items c.latest_of-next.result c.latest_of-next.ensures

pub loop-next-smaller : goal.loop-next-smaller
loop-next-smaller c =
    taking_smaller c.args.index.now c.args.point.now c.in-Some.place c.args.passed.now c.loop-next.passed c.args.points.now.items c.loop-next.points.items c.loop-next.next c.earlier_at-next.result c.in-Some.is c.earlier_at-next.ensures c.loop-next.invariant

pub loop-next-preserved : goal.loop-next-preserved
loop-next-preserved c =
    let T = c.args.index.now in
    taking_on T c.args.point.now c.in-Some.place c.args.passed.now c.loop-next.passed c.push_carried.new.passed c.args.points.now.items c.loop-next.points.items c.push_carried.new.points.items c.earlier_at-next.result c.in_ok-push_carried.ensures c.earlier_at-next.ensures
    (subst (λ (n : Option ℕ). Taking T c.args.point.now c.args.passed.now c.loop-next.passed c.args.points.now.items c.loop-next.points.items n) c.in-Some.is c.loop-next.invariant)

pub returns : goal.returns
returns c = taking_end c.args.index.now c.args.point.now c.args.passed.now c.loop-next.passed c.args.points.now.items c.loop-next.points.items c.loop-next.next c.in_default.is c.loop-next.invariant
