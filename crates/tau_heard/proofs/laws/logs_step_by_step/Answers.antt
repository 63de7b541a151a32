use Rattle.tau_heard.proofs.Moves.{logs_step_by_step}
use Rattle.tau_heard.proofs.laws.logs_step_by_step.Goals as goal

pub returns : goal.returns
returns c = logs_step_by_step
