use Rattle.tau_explain.proofs.NearestLemmas.{picked}
use Rattle.tau_explain.proofs.chains.nearest.nearer.Goals as goal

pub returns-in-Some-Some : goal.returns-in-Some-Some
returns-in-Some-Some c = rw (c.in-Some-Some.is-0, c.in-Some-Some.is-1, c.in-Some-Some.least-is) (picked _ _ _ _ c.if-distance-least.true)
