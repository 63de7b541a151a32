use Rattle.tau_versions.proofs.Deciding.{own_search_tells_falls}
use Rattle.tau_versions.proofs.search.laws.own_search_tells_falls.Goals as goal

pub returns : goal.returns
returns c = own_search_tells_falls
