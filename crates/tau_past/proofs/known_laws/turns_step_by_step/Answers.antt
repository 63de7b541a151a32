use Rattle.tau_past.proofs.PendingLemmas.{turns_after_step as the_law}
use Rattle.tau_past.proofs.known_laws.turns_step_by_step.Goals as goal

pub returns : goal.returns
returns c = the_law
