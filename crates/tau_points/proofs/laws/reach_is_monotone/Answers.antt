use Rattle.tau_points.proofs.Reach.{monotone}
use Rattle.tau_points.proofs.laws.reach_is_monotone.Goals as goal

pub returns : goal.returns
returns g c = monotone _ _ _ _
