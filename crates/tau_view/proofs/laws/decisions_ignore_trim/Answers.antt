use Rattle.tau_view.proofs.Settled.{fallen_ignores_trim, not_firm_ignores_trim}
use Rattle.tau_view.proofs.laws.decisions_ignore_trim.Goals as goal

pub returns-clause-fallen : goal.returns-clause-fallen
returns-clause-fallen g c = fallen_ignores_trim g.V.View.drops_edge g.V.View.drops_root g.met.V.View.drops_settled_edges

pub returns-clause-not_firm : goal.returns-clause-not_firm
returns-clause-not_firm g c = not_firm_ignores_trim g.V.View.drops_edge g.V.View.drops_root g.met.V.View.drops_settled_edges
