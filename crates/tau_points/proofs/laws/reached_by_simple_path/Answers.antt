use Rattle.tau_points.proofs.Reach.{by_simple_path}
use Rattle.tau_points.proofs.laws.reached_by_simple_path.Goals as goal

pub returns : goal.returns
returns g c = by_simple_path _ _
