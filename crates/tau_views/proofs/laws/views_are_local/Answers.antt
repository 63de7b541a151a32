use Rattle.tau_views.proofs.HeardLaws.{views_are_local as the_law}
use Rattle.tau_views.proofs.laws.views_are_local.Goals as goal

pub returns : goal.returns
returns c = the_law
