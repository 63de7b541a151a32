use Rattle.tau_view.proofs.Stays.{fallen_stays, not_firm_stays}
use Rattle.tau_view.proofs.laws.points_stay.Goals as goal

pub returns-clause-fallen : goal.returns-clause-fallen
returns-clause-fallen g c = fallen_stays g.V.View.drops_edge g.V.View.drops_root

pub returns-clause-not_firm : goal.returns-clause-not_firm
returns-clause-not_firm g c = not_firm_stays g.V.View.drops_edge g.V.View.drops_root
