use Rattle.tau_points.specs.Reach.{Leads}
use Rattle.tau_explain.proofs.Going.{next_missing, next_is}
use Rattle.tau_explain.proofs.chains.searching.next_at.Goals as goal

pub unreachable-requires : goal.unreachable-requires
unreachable-requires c = next_missing (Leads c.args.links.now) _ _ _ _ c.push_next.new.stack.items c.in_ok-push_next.ensures
    (rw (← c.deref.ensures.value) c.in-None.ensures) c.requires.nearer

pub returns : goal.returns
returns c = next_is (Leads c.args.links.now) _ _ _ _ _ c.push_next.new.stack.items c.clear.ensures.items c.in_ok-push_next.ensures
    (rw (← c.deref.ensures.value) c.in-Some.ensures) c.requires.from
