use Rattle.tau_views.proofs.Next.{actor_exists, comparable}
use Rattle.tau_views.proofs.Hearing.{heard_exists, by_merge}
use Rattle.tau_views.proofs.preparing.NextStep.by_merge.Goals as goal

pub after_merge-requires : goal.after_merge-requires
after_merge-requires g c =
    comparable g.V.View.drops_edge g.V.View.drops_root g.V.View.held c.self.inside.views.now c.self.inside.trace.now.run c.self.invariant.views c.self.invariant.well_formed c.args.who c.args.message (g.V.View.held c.own_view-view.result.now) (g.V.View.held c.letter_view-letter.result.now)
    (actor_exists c.self.invariant c.args.who (rw (← c.self.view_is) at c.requires.by))
    (heard_exists c.self.invariant c.args.who c.args.message (g.V.View.held c.own_view-view.result.now) (g.V.View.held c.letter_view-letter.result.now) c.own_view-view.ensures c.letter_view-letter.ensures (rw (← c.self.view_is) at c.requires.hears))
    c.own_view-view.ensures c.letter_view-letter.ensures

pub returns : goal.returns
returns g c = rw (← c.self.view_is) (by_merge c.self.invariant c.args.who c.args.message (g.V.View.held c.own_view-view.result.now) (g.V.View.held c.letter_view-letter.result.now) c.own_view-view.ensures c.letter_view-letter.ensures c.in_ok-next.next c.own.result (rw (← c.self.view_is) at c.requires.by) (rw (← c.self.view_is) at c.requires.kind) (rw (← c.self.view_is) at c.requires.hears) c.own.ensures c.in_ok-next.ensures)
