use Rattle.tau_trace.proofs.PointLemmas.{chain}
use Rattle.tau_trace.proofs.laws.histories_lie_on_a_chain.Goals as goal

pub returns : goal.returns
returns c = chain
