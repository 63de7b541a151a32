use Rattle.tau_trace.proofs.PointLemmas.{no_return}
use Rattle.tau_trace.proofs.laws.points_do_not_return.Goals as goal

pub returns : goal.returns
returns c = no_return
