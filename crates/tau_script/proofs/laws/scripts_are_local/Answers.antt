use Rattle.tau_script.proofs.Same.{same_script}
use Rattle.tau_script.proofs.laws.scripts_are_local.Goals as goal

pub returns : goal.returns
returns c = same_script
