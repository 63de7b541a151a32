use Rattle.tau_versions.proofs.Latest.{latest_of_the_greater_place}
use Rattle.tau_versions.proofs.logs.laws.latest_of_the_greater_place.Goals as goal

pub returns : goal.returns
returns c = latest_of_the_greater_place
