use Rattle.tau_versions.proofs.Taking.{reached_points_have_taken_nothing}
use Rattle.tau_versions.proofs.logs.laws.reached_points_have_taken_nothing.Goals as goal

pub returns : goal.returns
returns c = reached_points_have_taken_nothing
