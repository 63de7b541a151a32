use Rattle.tau_past.proofs.PastSearch.{visits_fresh, visits_known}
use Rattle.tau_past.proofs.search.visit.Goals as goal

pub returns-in_ok-push_following-clause-visits : goal.returns-in_ok-push_following-clause-visits
returns-in_ok-push_following-clause-visits c =
    visits_fresh c.args.index.now c.args.point c.args.found.now c.insert.new.self c.args.passed.now c.push_following.new.passed c.args.left.now.items c.push_following.new.points.items c.in_ok-insert.field-0 c.if-branch.true c.in_ok-insert.ensures.fresh c.in_ok-insert.ensures.members c.in_ok-insert.ensures.more c.in_ok-push_following.ensures

pub returns-else-branch-clause-visits : goal.returns-else-branch-clause-visits
returns-else-branch-clause-visits c =
    visits_known c.args.index.now c.args.point c.args.found.now c.insert.new.self c.args.passed.now c.args.left.now.items c.in_ok-insert.field-0 c.if-branch.false c.in_ok-insert.ensures.known c.in_ok-insert.ensures.unchanged
