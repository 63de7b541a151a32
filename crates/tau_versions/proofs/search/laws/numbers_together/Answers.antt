use Rattle.tau_versions.proofs.Deciding.{numbers_together}
use Rattle.tau_versions.proofs.search.laws.numbers_together.Goals as goal

pub returns : goal.returns
returns c = numbers_together
