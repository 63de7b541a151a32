use Rattle.tau_steps.proofs.StepFormLemmas.{no_mark}
use Rattle.tau_steps.proofs.laws.no_step_form_is_a_mark.Goals as goal

pub returns : goal.returns
returns c = no_mark
