use Rattle.tau_trace.proofs.PointLemmas.{never_stable}
use Rattle.tau_trace.proofs.laws.volatile_falls_were_never_stable.Goals as goal

pub returns : goal.returns
returns c = never_stable
