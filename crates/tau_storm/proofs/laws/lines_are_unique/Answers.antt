use Rattle.tau_storm.proofs.OneOutcome.{lines_once as the_law}
use Rattle.tau_storm.proofs.laws.lines_are_unique.Goals as goal

pub returns : goal.returns
returns c = the_law
