use Rattle.tau_view.specs.Held.{only}
use Rattle.tau_view.specs.Stored.{point_in}
use Rattle.tau_view.proofs.Stops.{fallen_of_found, none_beyond}
use Rattle.tau_view.proofs.fate.least.least_fallen_beyond.Goals as goal

pub returns-then-has_all : goal.returns-then-has_all
returns-then-has_all g c = none_beyond (g.V.View.held c.args.view.now) (only c.args._me) (point_in c.args.roots.now) c.args.past.now c.requires.found c.requires.none c.if-has_all.ensures

pub returns : goal.returns
returns g c = fallen_of_found (g.V.View.held c.args.view.now) (point_in c.args.roots.now) c.in_ok-found.found c.requires.settled c.in_ok-found.ensures.past c.first_fallen.result c.first_fallen.ensures
