use Rattle.tau_trace.proofs.PointLemmas.{points_grow}
use Rattle.tau_trace.proofs.laws.points_grow.Goals as goal

pub returns : goal.returns
returns c = points_grow
