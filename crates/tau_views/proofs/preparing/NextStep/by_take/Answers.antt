use Rattle.std.proofs.Common.{ap}
use Rattle.tau_trace.specs.Steps.{actor}
use Rattle.tau_past.specs.Heard.{heard_by}
use Rattle.tau_views.proofs.Next.{actor_exists, comparable}
use Rattle.tau_views.proofs.Hearing.{heard_exists, by_take}
use Rattle.tau_views.proofs.preparing.NextStep.by_take.Goals as goal

pub after_take-requires : goal.after_take-requires
after_take-requires g c =
    comparable g.V.View.drops_edge g.V.View.drops_root g.V.View.held c.self.inside.views.now c.self.inside.trace.now.run c.self.invariant.views c.self.invariant.well_formed c.args.who c.args.message (g.V.View.held c.own_view-view.result.now) (g.V.View.held c.letter_view-letter.result.now)
    (actor_exists c.self.invariant c.args.who (ap actor (rw (← c.self.view_is) at c.requires.kind)))
    (heard_exists c.self.invariant c.args.who c.args.message (g.V.View.held c.own_view-view.result.now) (g.V.View.held c.letter_view-letter.result.now) c.own_view-view.ensures c.letter_view-letter.ensures (ap heard_by (rw (← c.self.view_is) at c.requires.kind)))
    c.own_view-view.ensures c.letter_view-letter.ensures

pub returns : goal.returns
returns g c = rw (← c.self.view_is) (by_take c.self.invariant c.args.who c.args.message (g.V.View.held c.own_view-view.result.now) (g.V.View.held c.letter_view-letter.result.now) c.own_view-view.ensures c.letter_view-letter.ensures c.in_ok-next.next c.own.result (rw (← c.self.view_is) at c.requires.kind) c.own.ensures c.in_ok-next.ensures)
