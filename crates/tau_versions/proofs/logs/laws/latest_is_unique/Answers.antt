use Rattle.tau_versions.proofs.Latest.{latest_is_unique}
use Rattle.tau_versions.proofs.logs.laws.latest_is_unique.Goals as goal

pub returns : goal.returns
returns c = latest_is_unique
