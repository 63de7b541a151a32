use Rattle.tau_trace.proofs.PointLemmas.{fates_are_steps}
use Rattle.tau_trace.proofs.laws.fates_are_local.Goals as goal

pub returns : goal.returns
returns c = fates_are_steps
