use Rattle.tau_views.proofs.HeardLaws.{views_step_by_step as the_law}
use Rattle.tau_views.proofs.laws.views_step_by_step.Goals as goal

pub returns : goal.returns
returns c = the_law
