use Rattle.tau_views.proofs.JudgementLaws.{verdicts_agree, freedom_agrees}
use Rattle.tau_views.proofs.laws.decisions_agree.Goals as goal

pub returns-clause-verdict : goal.returns-clause-verdict
returns-clause-verdict g c = verdicts_agree g.V.View.drops_edge g.V.View.drops_root g.met.V.View.drops_settled_edges g.met.V.View.drops_closed_roots g.met.V.View.drops_for_good

pub returns-clause-freedom : goal.returns-clause-freedom
returns-clause-freedom g c = freedom_agrees g.V.View.drops_edge g.V.View.drops_root g.met.V.View.drops_settled_edges g.met.V.View.drops_closed_roots g.met.V.View.drops_for_good
