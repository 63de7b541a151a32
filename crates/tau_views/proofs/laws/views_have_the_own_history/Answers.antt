use Rattle.tau_views.proofs.HeardLaws.{views_have_the_own_history as own, views_lack_the_unborn as unborn}
use Rattle.tau_views.proofs.laws.views_have_the_own_history.Goals as goal

pub returns-clause-own : goal.returns-clause-own
returns-clause-own c = own

pub returns-clause-unborn : goal.returns-clause-unborn
returns-clause-unborn c = unborn
