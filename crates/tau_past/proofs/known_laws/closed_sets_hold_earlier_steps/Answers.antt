use Rattle.tau_past.proofs.BoundLemmas.{holds_earlier as the_law}
use Rattle.tau_past.proofs.known_laws.closed_sets_hold_earlier_steps.Goals as goal

pub returns : goal.returns
returns g c = the_law _
