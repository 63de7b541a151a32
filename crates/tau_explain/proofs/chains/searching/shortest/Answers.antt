use Rattle.tau_explain.proofs.Going.{leads_nearer, shortest_is, no_shortest}
use Rattle.tau_explain.proofs.chains.searching.shortest.Goals as goal

pub going_down-requires-clause-nearer : goal.going_down-requires-clause-nearer
going_down-requires-clause-nearer c = leads_nearer _ _ _ _ _ _ _ c.in_ok-turned.ensures c.points.ensures.points c.points-2.ensures.points c.in_ok-far.ensures

pub returns-in-Some-clause-first : goal.returns-in-Some-clause-first
returns-in-Some-clause-first c = rw c.from_vec.ensures (shortest_is _ _ _ _ _ _ _ c.in_ok-turned.ensures c.points.ensures.points c.points-2.ensures.points c.in_ok-far.ensures _ _ _ c.in-Some.ensures c.in_ok-items-in-Some.ensures)

pub returns-clause-none : goal.returns-clause-none
returns-clause-none c = no_shortest _ _ _ _ _ _ _ c.in_ok-turned.ensures c.points.ensures.points c.points-2.ensures.points c.in_ok-far.ensures c.in-None.ensures
