use Rattle.tau_versions.proofs.Latest.{latest_stays_latest}
use Rattle.tau_versions.proofs.logs.laws.latest_stays_latest.Goals as goal

pub returns : goal.returns
returns c = latest_stays_latest
