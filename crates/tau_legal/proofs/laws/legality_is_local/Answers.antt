use Rattle.tau_legal.proofs.TraceLemmas.{legal_same as the_law}
use Rattle.tau_legal.proofs.laws.legality_is_local.Goals as goal

pub returns : goal.returns
returns c = the_law
