use Rattle.tau_past.proofs.HeardLemmas.{stands_before as the_law}
use Rattle.tau_past.proofs.known_laws.what_is_heard_stands_before.Goals as goal

pub returns : goal.returns
returns c = the_law
