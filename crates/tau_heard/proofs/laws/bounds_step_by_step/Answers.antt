use Rattle.tau_heard.proofs.Bounds.{bounds_step_by_step}
use Rattle.tau_heard.proofs.laws.bounds_step_by_step.Goals as goal

pub returns : goal.returns
returns c = bounds_step_by_step
