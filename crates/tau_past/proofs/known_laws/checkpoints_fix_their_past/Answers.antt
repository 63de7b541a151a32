use Rattle.tau_past.proofs.FixedLemmas.{fixes_past as the_law}
use Rattle.tau_past.proofs.known_laws.checkpoints_fix_their_past.Goals as goal

pub returns : goal.returns
returns c = the_law
