use Rattle.tau_view.proofs.Settled.{settled_under_trim}
use Rattle.tau_view.proofs.laws.settled_under_trim.Goals as goal

pub returns : goal.returns
returns g c = settled_under_trim g.V.View.drops_edge g.V.View.drops_root
