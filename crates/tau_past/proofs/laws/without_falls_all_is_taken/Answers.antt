use Rattle.tau_past.proofs.Expected.{all_is_taken as the_law}
use Rattle.tau_past.proofs.laws.without_falls_all_is_taken.Goals as goal

pub returns : goal.returns
returns c = the_law
