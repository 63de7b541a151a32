use Rattle.tau_past.proofs.PendingLemmas.{pending_after_step as the_law}
use Rattle.tau_past.proofs.known_laws.pending_step_by_step.Goals as goal

pub returns : goal.returns
returns c = the_law
