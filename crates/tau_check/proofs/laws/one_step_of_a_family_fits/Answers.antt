use Rattle.tau_check.proofs.FamilyLemmas.{one_of_a_family}
use Rattle.tau_check.proofs.laws.one_step_of_a_family_fits.Goals as goal

pub returns : goal.returns
returns c = one_of_a_family
