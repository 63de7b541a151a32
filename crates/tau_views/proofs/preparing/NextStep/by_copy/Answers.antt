use Rattle.std.proofs.Common.{refl}
use Rattle.tau_views.proofs.Making.{by_copy}
use Rattle.tau_views.proofs.preparing.NextStep.by_copy.Goals as goal

pub returns : goal.returns
returns g c = rw (← c.self.view_is) (by_copy c.self.invariant c.args.message (g.V.View.held c.letter_view.result.now) c.in_ok-letter.letter _ c.letter_view.ensures (rw (← c.self.view_is) at c.requires.kind) c.in_ok-letter.ensures refl)
