use Rattle.tau_past.proofs.BoundLemmas.{bound_history as the_law}
use Rattle.tau_past.proofs.known_laws.bounds_tell_histories.Goals as goal

pub returns : goal.returns
returns g c = the_law _
