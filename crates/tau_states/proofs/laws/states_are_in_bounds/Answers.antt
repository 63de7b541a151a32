use Rattle.tau_states.proofs.Bounds.{in_bounds as the_law}
use Rattle.tau_states.proofs.laws.states_are_in_bounds.Goals as goal

pub returns : goal.returns
returns c = the_law
