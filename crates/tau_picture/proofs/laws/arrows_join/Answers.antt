use Rattle.tau_picture.proofs.ArrowLaws.{arrows_join as the_law}
use Rattle.tau_picture.proofs.laws.arrows_join.Goals as goal

pub returns : goal.returns
returns c = the_law
