use Rattle.tau_past.proofs.BoundLemmas.{union_bound as the_law}
use Rattle.tau_past.proofs.known_laws.unions_have_the_greater_bound.Goals as goal

pub returns : goal.returns
returns g c = the_law _ _
