use Rattle.tau_script.proofs.Determined.{no_failure}
use Rattle.tau_script.proofs.laws.complete_runs_have_no_failures.Goals as goal

pub returns : goal.returns
returns c = no_failure
