use Rattle.tau_past.proofs.HeardLemmas.{union_closed as the_law}
use Rattle.tau_past.proofs.known_laws.unions_are_closed.Goals as goal

pub returns : goal.returns
returns g c = the_law _ _
