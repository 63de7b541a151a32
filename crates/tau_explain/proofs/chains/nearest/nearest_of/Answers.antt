use Rattle.std.proofs.Common.{sym, ◌∙◌}
use Rattle.tau_explain.proofs.NearestLemmas.{nearest_more}
use Rattle.tau_explain.proofs.chains.nearest.nearest_of.Goals as goal

pub loop-point-preserved : goal.loop-point-preserved
loop-point-preserved c = nearest_more _ _ _ _ _ _ _ c.requires c.loop-point-test.true (sym (c.copied.ensures ∙ c.get.ensures.value)) c.nearer-nearest.ensures c.loop-point.invariant
