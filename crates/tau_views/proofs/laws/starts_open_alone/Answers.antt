use Rattle.tau_views.proofs.HeardLaws.{starts_open_alone as the_law}
use Rattle.tau_views.proofs.laws.starts_open_alone.Goals as goal

pub returns : goal.returns
returns c = the_law
