use Rattle.tau_past.proofs.BoundLemmas.{bounds_with_step as the_law}
use Rattle.tau_past.proofs.known_laws.steps_change_their_bound_alone.Goals as goal

pub returns : goal.returns
returns g c = the_law _
