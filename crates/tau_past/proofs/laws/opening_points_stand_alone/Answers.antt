use Rattle.tau_past.proofs.Expected.{stands_alone as the_law}
use Rattle.tau_past.proofs.laws.opening_points_stand_alone.Goals as goal

pub returns : goal.returns
returns c = the_law
