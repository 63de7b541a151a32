use Rattle.tau_picture.proofs.PictureLaws.{marks_stand_in_rows as the_law}
use Rattle.tau_picture.proofs.laws.marks_stand_in_rows.Goals as goal

pub returns : goal.returns
returns c = the_law
