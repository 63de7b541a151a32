use Rattle.tau_states.proofs.Uniqueness.{saved_once as the_law}
use Rattle.tau_states.proofs.laws.saved_states_are_unique.Goals as goal

pub returns : goal.returns
returns c = the_law
