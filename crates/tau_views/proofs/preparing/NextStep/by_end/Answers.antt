use Rattle.tau_views.proofs.Leaving.{by_end}
use Rattle.tau_views.proofs.preparing.NextStep.by_end.Goals as goal

pub returns : goal.returns
returns g c = rw (← c.self.view_is) (by_end c.self.invariant c.args.who (g.V.View.held c.own_view.result.now) c.own_view.ensures (rw (← c.self.view_is) at c.requires.by) c.in_ok-next.next c.own.result c.own.ensures (rw (← c.self.view_is) at c.requires.ends) (rw (← c.self.view_is) at c.requires.keeps) c.in_ok-next.ensures)
