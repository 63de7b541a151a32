use Rattle.tau_versions.proofs.Taking.{takes_go_on}
use Rattle.tau_versions.proofs.logs.laws.takes_go_on.Goals as goal

pub returns : goal.returns
returns c = takes_go_on
