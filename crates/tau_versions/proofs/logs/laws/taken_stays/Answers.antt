use Rattle.tau_versions.proofs.Taking.{taken_stays}
use Rattle.tau_versions.proofs.logs.laws.taken_stays.Goals as goal

pub returns : goal.returns
returns c = taken_stays
