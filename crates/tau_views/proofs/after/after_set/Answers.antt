use Rattle.tau_views.proofs.Trimmed.{after_set}
use Rattle.tau_views.proofs.after.after_set.Goals as goal

pub returns : goal.returns
returns g c x e = after_set g.V.View.drops_edge g.V.View.drops_root g.met.V.View.drops_closed_roots c.args.point (g.V.View.held c.args.view.now) (g.V.View.held c.in_ok-next.next) (g.V.View.held c.depend.new.self) (g.V.View.held c.touch.new.self) x e c.in_ok-next.ensures c.in_ok-depend.ensures.ok c.in_ok-touch.ensures.ok
