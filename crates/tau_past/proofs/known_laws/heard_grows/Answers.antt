use Rattle.tau_past.proofs.HeardLemmas.{heard_grows as the_law}
use Rattle.tau_past.proofs.known_laws.heard_grows.Goals as goal

pub returns : goal.returns
returns c = the_law
