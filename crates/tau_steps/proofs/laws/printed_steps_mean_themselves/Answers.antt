use Rattle.tau_steps.proofs.LawLemmas.{printed_step}
use Rattle.tau_steps.proofs.laws.printed_steps_mean_themselves.Goals as goal

pub returns : goal.returns
returns c = printed_step
