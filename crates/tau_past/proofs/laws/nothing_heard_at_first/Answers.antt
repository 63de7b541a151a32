use Rattle.tau_past.proofs.Expected.{nothing_at_first as the_law}
use Rattle.tau_past.proofs.laws.nothing_heard_at_first.Goals as goal

pub returns : goal.returns
returns c = the_law
