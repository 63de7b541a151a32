use Rattle.tau_past.proofs.Breaches.{checked_some, checked_none}
use Rattle.tau_past.proofs.auditing.check_place.Goals as goal

pub returns-in_ok-fallen-in-Some-clause-checked : goal.returns-in_ok-fallen-in-Some-clause-checked
returns-in_ok-fallen-in-Some-clause-checked c =
    checked_some c.args.index.now c.args.place c.in-Some.point c.checkpoint_at.result c.args.found.now c.add_past.new.found c.in_ok-fallen-in-Some.fallen c.checkpoint_at.ensures c.in-Some.is c.in_ok-fallen-in-Some.ensures.past c.in_ok-fallen-in-Some.ensures.fallen c.in_ok-fallen-in-Some.ensures.safe
    c.then_some.result c.then_some.ensures

pub returns-in-None-clause-checked : goal.returns-in-None-clause-checked
returns-in-None-clause-checked c = checked_none c.args.index.now c.args.place c.checkpoint_at.result c.args.found.now c.checkpoint_at.ensures c.in-None.is
