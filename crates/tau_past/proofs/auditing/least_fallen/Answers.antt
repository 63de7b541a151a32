use Rattle.std.proofs.lemmas.List.{get_or_default}
use Rattle.tau_past.proofs.Breaches.{least_found}
use Rattle.tau_past.proofs.auditing.least_fallen.Goals as goal

pub returns-then-is_rolled_back : goal.returns-then-is_rolled_back
returns-then-is_rolled_back c =
    least_found c.args.index.now c.args.points.now c.loop-point.point-index _ c.requires c.loop-point-test.true (get_or_default c.args.points.now c.loop-point.point-index _ _ c.loop-point-test.true) (c.is_rolled_back.ensures.0 c.if-is_rolled_back.true) c.loop-point.invariant
