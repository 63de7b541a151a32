use Rattle.tau_versions.proofs.Known.{fates_at_bounds_tell_the_known as the_law}
use Rattle.tau_versions.proofs.logs.laws.fates_at_bounds_tell_the_known.Goals as goal

pub returns : goal.returns
returns g c = the_law _
