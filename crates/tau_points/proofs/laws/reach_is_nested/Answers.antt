use Rattle.tau_points.proofs.Reach.{nested}
use Rattle.tau_points.proofs.laws.reach_is_nested.Goals as goal

pub returns : goal.returns
returns g c = nested _ _ _
