use Rattle.std.proofs.Common.{refl}
use Rattle.tau_views.proofs.Making.{by_echo}
use Rattle.tau_views.proofs.preparing.NextStep.by_echo.Goals as goal

pub returns : goal.returns
returns g c = rw (← c.self.view_is) (by_echo c.self.invariant c.args.who (g.V.View.held c.own_view.result.now) c.own_view.ensures c.args.message c.in_ok-letter.letter _ (rw (← c.self.view_is) at c.requires.kind) c.in_ok-letter.ensures refl)
