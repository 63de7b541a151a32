use Rattle.tau_states.proofs.Uniqueness.{state_once as the_law}
use Rattle.tau_states.proofs.laws.states_are_unique.Goals as goal

pub returns : goal.returns
returns c = the_law
