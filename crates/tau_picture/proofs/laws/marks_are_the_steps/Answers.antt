use Rattle.tau_picture.proofs.MarkLaws.{marks_are_the_steps as the_law}
use Rattle.tau_picture.proofs.laws.marks_are_the_steps.Goals as goal

pub returns : goal.returns
returns c = the_law
