use Rattle.tau_points.proofs.Reach.{restricted}
use Rattle.tau_points.proofs.laws.reach_is_restricted.Goals as goal

pub returns : goal.returns
returns g c = restricted _ _ _ _
