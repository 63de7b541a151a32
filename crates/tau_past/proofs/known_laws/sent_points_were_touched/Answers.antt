use Rattle.tau_past.proofs.HeardLemmas.{sent_touched as the_law}
use Rattle.tau_past.proofs.known_laws.sent_points_were_touched.Goals as goal

pub returns : goal.returns
returns c = the_law
