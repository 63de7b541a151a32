use Rattle.std.proofs.Common.{subst, Option, ℕ}
use Rattle.tau_past.proofs.Listings.{Walks, walks_on, walks_end}
use Rattle.tau_past.proofs.listing.carried_points.Goals as goal

pub loop-next-preserved : goal.loop-next-preserved
loop-next-preserved c =
    let T = c.args.index.now in
    walks_on T c.args.place c.in-Some.at c.carried_at-carried.result c.loop-next.points.items c.push_some.new.points.items c.carried_at-carried.ensures c.in_ok-push_some.ensures
    (subst (λ (n : Option ℕ). Walks T c.args.place c.loop-next.points.items n) c.in-Some.is c.loop-next.invariant)

pub returns : goal.returns
returns c = walks_end c.args.index.now c.args.place c.loop-next.points.items c.loop-next.next c.in_default.is c.loop-next.invariant
