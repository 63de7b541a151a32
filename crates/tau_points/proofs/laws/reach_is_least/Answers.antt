use Rattle.tau_points.proofs.Reach.{least}
use Rattle.tau_points.proofs.laws.reach_is_least.Goals as goal

pub returns : goal.returns
returns g c = least _ _ _
