use Rattle.tau_picture.proofs.LaneLaws.{lanes_stand_apart as the_law}
use Rattle.tau_picture.proofs.laws.lanes_stand_apart.Goals as goal

pub returns : goal.returns
returns c = the_law
