use Rattle.std.proofs.Common.{refl}
use Rattle.tau_views.proofs.Making.{by_removal}
use Rattle.tau_views.proofs.preparing.NextStep.by_removal.Goals as goal

pub returns : goal.returns
returns g c = rw (← c.self.view_is) (by_removal c.self.invariant c.args.message _ (rw (← c.self.view_is) at c.requires.kind) (rw (← c.self.view_is) at c.requires.removed) refl)
