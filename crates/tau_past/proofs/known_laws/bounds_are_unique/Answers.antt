use Rattle.tau_past.proofs.BoundLemmas.{bound_once as the_law}
use Rattle.tau_past.proofs.known_laws.bounds_are_unique.Goals as goal

pub returns : goal.returns
returns g c = the_law _
