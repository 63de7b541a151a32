use Rattle.tau_views.proofs.ViewSteps.{copies_have_their_view as the_law}
use Rattle.tau_views.proofs.laws.copies_have_their_view.Goals as goal

pub returns : goal.returns
returns c = the_law
