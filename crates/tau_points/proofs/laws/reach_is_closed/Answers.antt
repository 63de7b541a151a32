use Rattle.tau_points.proofs.Reach.{closed}
use Rattle.tau_points.proofs.laws.reach_is_closed.Goals as goal

pub returns : goal.returns
returns g c = closed _ _
