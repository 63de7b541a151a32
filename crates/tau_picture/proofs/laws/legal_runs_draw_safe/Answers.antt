use Rattle.tau_picture.proofs.KeptLaws.{legal_runs_draw_safe as the_law}
use Rattle.tau_picture.proofs.laws.legal_runs_draw_safe.Goals as goal

pub returns : goal.returns
returns c = the_law
