use Rattle.tau_versions.proofs.Telling.{logs_are_local}
use Rattle.tau_versions.proofs.logs.laws.logs_are_local.Goals as goal

pub returns : goal.returns
returns c = logs_are_local
