use Rattle.tau_view.specs.Held.{only}
use Rattle.tau_view.proofs.Stops.{fallen_of_found}
use Rattle.tau_view.proofs.fate.least.least_fallen_found.Goals as goal

pub returns : goal.returns
returns g c = fallen_of_found (g.V.View.held c.args.view.now) (only c.args._me) c.args.past.now c.requires.settled c.requires.found c.first_fallen.result c.first_fallen.ensures
