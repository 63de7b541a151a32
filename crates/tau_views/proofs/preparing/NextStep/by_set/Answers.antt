use Rattle.tau_views.proofs.Touching.{by_set}
use Rattle.tau_views.proofs.preparing.NextStep.by_set.Goals as goal

pub returns : goal.returns
returns g c = rw (← c.self.view_is) (by_set c.self.invariant c.args.who (g.V.View.held c.own_view-view.result.now) c.in_ok-next.next c.own.result c.own_point.result c.own_view-view.ensures c.own_point.ensures c.own.ensures (rw (← c.self.view_is) at c.requires.by) (rw (← c.self.view_is) at c.requires.kind) c.in_ok-next.ensures)
