use Rattle.tau_versions.proofs.Telling.{logs_stay}
use Rattle.tau_versions.proofs.logs.laws.logs_stay.Goals as goal

pub returns : goal.returns
returns c = logs_stay
