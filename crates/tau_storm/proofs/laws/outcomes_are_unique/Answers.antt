use Rattle.tau_storm.proofs.OneOutcome.{outcomes_once as the_law}
use Rattle.tau_storm.proofs.laws.outcomes_are_unique.Goals as goal

pub returns : goal.returns
returns c = the_law
