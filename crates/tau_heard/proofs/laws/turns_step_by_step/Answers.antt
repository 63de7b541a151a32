use Rattle.tau_heard.proofs.Turns.{turns_step_by_step}
use Rattle.tau_heard.proofs.laws.turns_step_by_step.Goals as goal

pub returns : goal.returns
returns c = turns_step_by_step
