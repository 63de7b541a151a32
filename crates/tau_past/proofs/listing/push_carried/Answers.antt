use Rattle.std.proofs.Common.{subst, Option, ℕ, arith, refl}
use Rattle.tau_past.proofs.Listings.{Passes, passes_on, passes_end, passes_known, passed_read}
use Rattle.tau_past.proofs.listing.push_carried.Goals as goal

pub returns-then-passed-at : goal.returns-then-passed-at
returns-then-passed-at c =
    let T = c.args.index.now in
    let at = subst (λ (n : Option ℕ). Passes T c.args.place c.args.passed.now c.loop-next.passed c.args.points.now.items c.loop-next.points.items n) c.in-Some.is c.loop-next.invariant in
    passes_known T c.args.place c.in-Some.at c.args.passed.now c.loop-next.passed c.args.points.now.items c.loop-next.points.items
    (passed_read c.loop-next.passed c.in-Some.at _ (omega (arith, at.within c.in-Some.at refl, c.requires.passed, c.loop-next.auto.passed)) c.if-passed-at.true) at

pub loop-next-preserved : goal.loop-next-preserved
loop-next-preserved c =
    let T = c.args.index.now in
    let at = subst (λ (n : Option ℕ). Passes T c.args.place c.args.passed.now c.loop-next.passed c.args.points.now.items c.loop-next.points.items n) c.in-Some.is c.loop-next.invariant in
    passes_on T c.args.place c.in-Some.at c.carried_at-carried.result c.args.passed.now c.loop-next.passed _ c.args.points.now.items c.loop-next.points.items c.push_some.new.points.items
    (omega (arith, at.within c.in-Some.at refl, c.requires.passed, c.loop-next.auto.passed)) refl c.carried_at-carried.ensures c.in_ok-push_some.ensures at

pub returns : goal.returns
returns c =
    passes_end c.args.index.now c.args.place c.args.passed.now c.loop-next.passed c.args.points.now.items c.loop-next.points.items c.loop-next.next c.in_default.is c.loop-next.invariant
