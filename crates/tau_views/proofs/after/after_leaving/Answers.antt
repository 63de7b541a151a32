use Rattle.tau_views.proofs.Trimmed.{after_leaving}
use Rattle.tau_views.proofs.after.after_leaving.Goals as goal

pub returns : goal.returns
returns g c x e = after_leaving g.V.View.drops_edge g.V.View.drops_root g.met.V.View.drops_for_good c.args.who c.args.history.now.history (g.V.View.held c.args.view.now) (g.V.View.held c.in_ok-next.next) (g.V.View.held c.note.new.self) (g.V.View.held c.clear_roots.new.self) x c.requires e c.in_ok-next.ensures c.in_ok-note.ensures.ok c.clear_roots.ensures
