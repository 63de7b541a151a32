use Rattle.tau_picture.proofs.OnePicture.{pictures_are_unique as the_law}
use Rattle.tau_picture.proofs.laws.pictures_are_unique.Goals as goal

pub returns : goal.returns
returns c = the_law
