use Rattle.tau_trace.proofs.Counted.{counted}
use Rattle.tau_trace.proofs.laws.histories_are_counted.Goals as goal

pub returns : goal.returns
returns c = counted
