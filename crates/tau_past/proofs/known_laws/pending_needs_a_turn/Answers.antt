use Rattle.tau_past.proofs.PendingLemmas.{pending_turn as the_law}
use Rattle.tau_past.proofs.known_laws.pending_needs_a_turn.Goals as goal

pub returns : goal.returns
returns c = the_law
