use Rattle.tau_forms.proofs.ReadBackUnique.{one_program}
use Rattle.tau_forms.proofs.laws.forms_mean_one_program.Goals as goal

pub returns : goal.returns
returns c = one_program
