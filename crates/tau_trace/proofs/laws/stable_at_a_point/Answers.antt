use Rattle.tau_trace.proofs.PointLemmas.{stable_at}
use Rattle.tau_trace.proofs.laws.stable_at_a_point.Goals as goal

pub returns : goal.returns
returns c = stable_at
