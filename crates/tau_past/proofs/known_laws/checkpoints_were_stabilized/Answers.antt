use Rattle.tau_past.proofs.FixedLemmas.{was_stabilized as the_law}
use Rattle.tau_past.proofs.known_laws.checkpoints_were_stabilized.Goals as goal

pub returns : goal.returns
returns c = the_law
