use Rattle.tau_picture.proofs.KeptLaws.{blue_may_be_kept as the_law}
use Rattle.tau_picture.proofs.laws.blue_may_be_kept.Goals as goal

pub returns : goal.returns
returns c = the_law
