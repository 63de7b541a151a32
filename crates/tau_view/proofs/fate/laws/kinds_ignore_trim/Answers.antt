use Rattle.tau_view.proofs.SameKinds.{verdict_kind, freedom_kind}
use Rattle.tau_view.proofs.fate.laws.kinds_ignore_trim.Goals as goal

pub returns-clause-verdict : goal.returns-clause-verdict
returns-clause-verdict g c = verdict_kind g.V.View.drops_edge g.V.View.drops_root g.met.V.View.drops_settled_edges g.met.V.View.drops_closed_roots

pub returns-clause-freedom : goal.returns-clause-freedom
returns-clause-freedom g c = freedom_kind g.V.View.drops_edge g.V.View.drops_root g.met.V.View.drops_settled_edges
