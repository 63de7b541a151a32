use Rattle.tau_trace.proofs.Agreement.{same_at}
use Rattle.tau_trace.proofs.laws.local_by_agreement.Goals as goal

pub returns : goal.returns
returns c = same_at
