use Rattle.tau_steps.proofs.StepFormLemmas.{forms_tell}
use Rattle.tau_steps.proofs.laws.step_forms_tell_runs.Goals as goal

pub returns : goal.returns
returns c = forms_tell
