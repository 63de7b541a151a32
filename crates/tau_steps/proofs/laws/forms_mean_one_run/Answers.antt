use Rattle.tau_steps.proofs.LawLemmas.{one_run}
use Rattle.tau_steps.proofs.laws.forms_mean_one_run.Goals as goal

pub returns : goal.returns
returns c = one_run
