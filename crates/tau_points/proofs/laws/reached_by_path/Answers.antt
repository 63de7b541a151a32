use Rattle.tau_points.proofs.Reach.{by_path}
use Rattle.tau_points.proofs.laws.reached_by_path.Goals as goal

pub returns : goal.returns
returns g c = by_path _ _
