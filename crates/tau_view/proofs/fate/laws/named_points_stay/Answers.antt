use Rattle.tau_view.proofs.SameKinds.{verdict_point, freedom_point}
use Rattle.tau_view.proofs.fate.laws.named_points_stay.Goals as goal

pub returns-clause-verdict : goal.returns-clause-verdict
returns-clause-verdict g c = verdict_point g.V.View.drops_edge g.V.View.drops_root

pub returns-clause-freedom : goal.returns-clause-freedom
returns-clause-freedom g c = freedom_point g.V.View.drops_edge g.V.View.drops_root
