use Rattle.tau_versions.proofs.Deciding.{own_search_tells_freedom}
use Rattle.tau_versions.proofs.search.laws.own_search_tells_freedom.Goals as goal

pub returns : goal.returns
returns c = own_search_tells_freedom
