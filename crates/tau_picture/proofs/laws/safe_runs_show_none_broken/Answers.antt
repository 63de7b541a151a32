use Rattle.tau_picture.proofs.KeptLaws.{safe_runs_show_none_broken as the_law}
use Rattle.tau_picture.proofs.laws.safe_runs_show_none_broken.Goals as goal

pub returns : goal.returns
returns c = the_law
