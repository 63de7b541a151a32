use Rattle.tau_picture.proofs.MarkupLaws.{pictures_are_markup as the_law}
use Rattle.tau_picture.proofs.laws.pictures_are_markup.Goals as goal

pub returns : goal.returns
returns c = the_law
