use Rattle.tau_past.proofs.Expected.{posts_carry_nothing as the_law}
use Rattle.tau_past.proofs.laws.posts_carry_nothing.Goals as goal

pub returns : goal.returns
returns c = the_law
