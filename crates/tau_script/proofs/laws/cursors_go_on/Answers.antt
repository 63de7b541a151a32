use Rattle.tau_script.proofs.Same.{goes_on}
use Rattle.tau_script.proofs.laws.cursors_go_on.Goals as goal

pub returns : goal.returns
returns c = goes_on
