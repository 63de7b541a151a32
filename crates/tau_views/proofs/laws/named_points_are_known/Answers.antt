use Rattle.tau_views.proofs.NamedPoints.{verdicts_name_fallen, freedom_names_not_firm}
use Rattle.tau_views.proofs.laws.named_points_are_known.Goals as goal

pub returns-clause-verdict : goal.returns-clause-verdict
returns-clause-verdict g c = verdicts_name_fallen g.V.View.drops_edge g.V.View.drops_root

pub returns-clause-freedom : goal.returns-clause-freedom
returns-clause-freedom g c = freedom_names_not_firm g.V.View.drops_edge g.V.View.drops_root
