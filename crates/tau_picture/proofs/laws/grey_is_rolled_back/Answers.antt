use Rattle.tau_picture.proofs.PictureLaws.{grey_is_rolled_back as the_law}
use Rattle.tau_picture.proofs.laws.grey_is_rolled_back.Goals as goal

pub returns : goal.returns
returns c = the_law
