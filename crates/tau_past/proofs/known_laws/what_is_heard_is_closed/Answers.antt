use Rattle.tau_past.proofs.HeardLemmas.{heard_sets_closed as the_law}
use Rattle.tau_past.proofs.known_laws.what_is_heard_is_closed.Goals as goal

pub returns : goal.returns
returns c = the_law
