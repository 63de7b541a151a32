use Rattle.tau_view.specs.Stored.{point_in}
use Rattle.tau_view.proofs.Stops.{not_firm_of_found}
use Rattle.tau_view.proofs.fate.least.least_not_firm_settled.Goals as goal

pub returns : goal.returns
returns g c = not_firm_of_found (g.V.View.held c.args.view.now) (point_in c.args.from.now) c.in_ok-found.found c.requires c.in_ok-found.ensures.past c.first_not_firm.result c.first_not_firm.ensures
