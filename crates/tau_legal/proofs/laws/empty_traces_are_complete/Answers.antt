use Rattle.tau_legal.proofs.TraceLemmas.{empty_complete as the_law}
use Rattle.tau_legal.proofs.laws.empty_traces_are_complete.Goals as goal

pub returns : goal.returns
returns c = the_law
