use Rattle.tau_versions.proofs.Deciding.{root_search_tells_drops}
use Rattle.tau_versions.proofs.search.laws.root_search_tells_drops.Goals as goal

pub returns : goal.returns
returns c = root_search_tells_drops
