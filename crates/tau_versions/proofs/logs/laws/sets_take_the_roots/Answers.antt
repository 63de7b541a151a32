use Rattle.tau_versions.proofs.Taking.{sets_take_the_roots}
use Rattle.tau_versions.proofs.logs.laws.sets_take_the_roots.Goals as goal

pub returns : goal.returns
returns c = sets_take_the_roots
