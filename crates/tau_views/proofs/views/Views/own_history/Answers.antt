use Rattle.std.proofs.Common.{◌∙◌}
use Rattle.tau_trace.proofs.Lists.{same_some}
use Rattle.tau_views.proofs.Next.{own_history_is}
use Rattle.tau_views.proofs.views.Views.own_history.Goals as goal

pub unreachable-requires : goal.unreachable-requires
unreachable-requires g c =
    let own = own_history_is g.V.View.drops_edge g.V.View.drops_root g.V.View.held c.args.self.now c.args.trace.now.run c.requires.views c.len-steps.ensures.well_formed c.args.who (g.V.View.held c.own_view.result.now) c.requires.exists c.own_view.ensures in
    let both = c.in-None.ensures ∙ own in
    cc

pub returns : goal.returns
returns g c =
    let own = own_history_is g.V.View.drops_edge g.V.View.drops_root g.V.View.held c.args.self.now c.args.trace.now.run c.requires.views c.len-steps.ensures.well_formed c.args.who (g.V.View.held c.own_view.result.now) c.requires.exists c.own_view.ensures in
    same_some (c.in-Some.ensures ∙ own)
