use Rattle.tau_legal.proofs.EndLemmas.{complete_where_no_step_is_legal as the_law}
use Rattle.tau_legal.proofs.laws.complete_where_no_step_is_legal.Goals as goal

pub returns : goal.returns
returns c = the_law
