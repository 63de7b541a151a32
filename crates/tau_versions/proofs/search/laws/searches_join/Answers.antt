use Rattle.tau_versions.proofs.Deciding.{searches_join}
use Rattle.tau_versions.proofs.search.laws.searches_join.Goals as goal

pub returns : goal.returns
returns c = searches_join
