use Rattle.std.proofs.lemmas.Result.{IfOk-weaker}
use Rattle.tau_past.proofs.Listings.{following}
use Rattle.tau_past.proofs.listing.push_following.Goals as goal

pub returns : goal.returns
returns c =
    IfOk-weaker c.push_some.result _ _
    (λ _ added. following c.args.index.now c.args.point.now c.args.passed.now c.push_taken.new.passed c.args.points.now.items c.push_taken.new.points.items c.push_some.new.points.items c.closing_before.result c.closing_before.ensures c.in_ok-push_taken.ensures added) c.push_some.ensures
