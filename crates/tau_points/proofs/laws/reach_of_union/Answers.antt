use Rattle.tau_points.proofs.Reach.{union}
use Rattle.tau_points.proofs.laws.reach_of_union.Goals as goal

pub returns : goal.returns
returns g c = union _ _ _
