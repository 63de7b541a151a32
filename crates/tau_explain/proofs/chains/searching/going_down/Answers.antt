use Rattle.tau_explain.proofs.Going.{going_more}
use Rattle.tau_explain.proofs.chains.searching.going_down.Goals as goal

pub loop-left-preserved : goal.loop-left-preserved
loop-left-preserved c = (going_more _ _ _ _ _ _ _ _ c.loop-left.invariant.0 c.in_ok-last.ensures c.in_ok-push-2.ensures.items, c.in_ok-last.ensures.nearer)
