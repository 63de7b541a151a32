use Rattle.std.proofs.Common.{◌∙◌, ◌+◌, sym, ap, subst, map}
use Rattle.tau_views.specs.Kept.{held_of}
use Rattle.tau_views.specs.Inner.Opened.{AreStarts}
use Rattle.tau_views.proofs.Lists.{map-push}
use Rattle.tau_views.proofs.Opens.{starts_more}
use Rattle.tau_views.proofs.opening.start_views.Goals as goal

pub loop-who-preserved : goal.loop-who-preserved
loop-who-preserved g c =
    let items = ap (map g.V.View.held) c.in_ok-push.ensures.items ∙ map-push g.V.View.held c.loop-who.views.items c.in_ok-start_view.field-0 in
    subst (λ xs. AreStarts g.V.View.drops_edge g.V.View.drops_root xs (c.loop-who.who + 1)) (sym items)
    (starts_more g.V.View.drops_edge g.V.View.drops_root (held_of g.V.View.held c.loop-who.views.items) c.loop-who.who (g.V.View.held c.in_ok-start_view.field-0) c.in_ok-start_view.ensures c.loop-who.invariant)
