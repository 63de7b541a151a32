use Rattle.tau_heard.proofs.Bounds.{bounds_together}
use Rattle.tau_heard.proofs.laws.bounds_together.Goals as goal

pub returns : goal.returns
returns c = bounds_together
