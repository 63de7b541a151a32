use Rattle.tau_script.proofs.Existing.{determined}
use Rattle.tau_script.proofs.laws.scripts_are_determined.Goals as goal

pub returns : goal.returns
returns c = determined
