use Rattle.std.proofs.Common.{◌∙◌, ap}
use Rattle.tau_view.specs.Rules.{noted}
use Rattle.tau_view.specs.Trim.{trim}
use Rattle.tau_views.proofs.Trimmed.{after_new}
use Rattle.tau_views.proofs.after.after_new.Goals as goal

pub returns : goal.returns
returns g c x e =
    let history = ap (λ k. trim g.V.View.drops_edge g.V.View.drops_root (noted c.args.made k (g.V.View.held c.depend.new.self))) c.in_ok-history.ensures in
    after_new g.V.View.drops_edge g.V.View.drops_root g.met.V.View.drops_closed_roots g.met.V.View.drops_for_good c.args.made (g.V.View.held c.args.view.now) (g.V.View.held c.in_ok-next.next) (g.V.View.held c.depend.new.self) (g.V.View.held c.note.new.self) x c.requires e c.in_ok-next.ensures c.in_ok-depend.ensures.ok (c.in_ok-note.ensures.ok ∙ history)
