use Rattle.tau_views.proofs.HeardLaws.{posts_have_heard_nothing as the_law}
use Rattle.tau_views.proofs.laws.posts_have_heard_nothing.Goals as goal

pub returns : goal.returns
returns c = the_law
