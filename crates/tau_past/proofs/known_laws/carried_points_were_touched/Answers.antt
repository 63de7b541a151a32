use Rattle.tau_past.proofs.HeardLemmas.{carried_touched as the_law}
use Rattle.tau_past.proofs.known_laws.carried_points_were_touched.Goals as goal

pub returns : goal.returns
returns g c = the_law _
