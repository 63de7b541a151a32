use Rattle.tau_past.proofs.BoundLemmas.{has_bounds as the_law}
use Rattle.tau_past.proofs.known_laws.what_is_heard_has_bounds.Goals as goal

pub returns : goal.returns
returns c = the_law
