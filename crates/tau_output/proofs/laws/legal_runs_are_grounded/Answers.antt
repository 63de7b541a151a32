use Rattle.tau_output.proofs.GroundLemmas.{legal_runs_grounded}
use Rattle.tau_output.proofs.laws.legal_runs_are_grounded.Goals as goal

pub returns : goal.returns
returns c = legal_runs_grounded
