use Rattle.tau_views.specs.Kept.{held_of, letters_of}
use Rattle.tau_views.proofs.ReadingLemmas.{history_exists, history_is}
use Rattle.tau_views.proofs.of_system.history_of.Goals as goal

pub returns-clause-exists : goal.returns-clause-exists
returns-clause-exists g c =
    let v = c.known.result.now in
    history_exists g.V.View.drops_edge g.V.View.drops_root c.args.system.now.run (held_of g.V.View.held v.own.items) (letters_of g.V.View.held v.letters.items) c.known.ensures.knows
    (λ h. h.now.history) c.known.ensures.well_formed c.args.who (g.V.View.held c.in_ok-view_of.field-0.now) c.history_of.result c.in_ok-view_of.ensures c.history_of.ensures

pub returns-clause-history : goal.returns-clause-history
returns-clause-history g c =
    let v = c.known.result.now in
    history_is g.V.View.drops_edge g.V.View.drops_root c.args.system.now.run (held_of g.V.View.held v.own.items) (letters_of g.V.View.held v.letters.items) c.known.ensures.knows
    (λ h. h.now.history) c.known.ensures.well_formed c.args.who (g.V.View.held c.in_ok-view_of.field-0.now) c.history_of.result c.in_ok-view_of.ensures c.history_of.ensures
