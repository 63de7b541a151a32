use Rattle.tau_eval.proofs.SameLemmas.{same_values_are_equal as the_law}
use Rattle.tau_eval.proofs.laws.same_values_are_equal.Goals as goal

pub returns : goal.returns
returns c = the_law
