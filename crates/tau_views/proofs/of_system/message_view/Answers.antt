use Rattle.tau_views.specs.Kept.{held_of, letters_of}
use Rattle.tau_views.proofs.ReadingLemmas.{message_in_flight}
use Rattle.tau_views.proofs.of_system.message_view.Goals as goal

pub returns-clause-in_flight : goal.returns-clause-in_flight
returns-clause-in_flight g c =
    let v = c.known.result.now in
    message_in_flight g.V.View.drops_edge g.V.View.drops_root c.args.system.now.run (held_of g.V.View.held v.own.items) (letters_of g.V.View.held v.letters.items) c.known.ensures.knows
    (λ v. g.V.View.held v.now) c.args.message c.message_view.result c.message_view.ensures
