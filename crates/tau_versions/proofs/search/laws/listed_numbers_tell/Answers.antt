use Rattle.tau_versions.proofs.Deciding.{listed_numbers_tell as the_law}
use Rattle.tau_versions.proofs.search.laws.listed_numbers_tell.Goals as goal

pub returns : goal.returns
returns g c = the_law _
