use Rattle.tau_past.proofs.Safety.{safety as the_law}
use Rattle.tau_past.proofs.laws.rules_make_safe.Goals as goal

pub returns : goal.returns
returns c = the_law
