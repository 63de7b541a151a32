use Rattle.std.proofs.Common.{ap, ◌∙◌, arith}
use Rattle.tau_history.specs.Timeline.{moved, fall}
use Rattle.tau_trace.specs.Steps.{actor}
use Rattle.tau_past.specs.Heard.{heard_by}
use Rattle.tau_views.proofs.Next.{actor_exists, comparable, may_fall}
use Rattle.tau_views.proofs.Hearing.{heard_exists, may_note_fall, by_fall}
use Rattle.tau_views.proofs.preparing.NextStep.by_fall.Goals as goal

pub fall-requires : goal.fall-requires
fall-requires g c = omega (arith, may_fall c.self.invariant c.args.who, ap (λ h. h.last) (c.in_ok-history.ensures ∙ c.own_history.ensures))

pub after_merge-requires : goal.after_merge-requires
after_merge-requires g c =
    comparable g.V.View.drops_edge g.V.View.drops_root g.V.View.held c.self.inside.views.now c.self.inside.trace.now.run c.self.invariant.views c.self.invariant.well_formed c.args.who c.args.message (g.V.View.held c.own_view-view.result.now) (g.V.View.held c.letter_view-letter.result.now)
    (actor_exists c.self.invariant c.args.who (ap actor (rw (← c.self.view_is) at c.requires.kind)))
    (heard_exists c.self.invariant c.args.who c.args.message (g.V.View.held c.own_view-view.result.now) (g.V.View.held c.letter_view-letter.result.now) c.own_view-view.ensures c.letter_view-letter.ensures (ap heard_by (rw (← c.self.view_is) at c.requires.kind)))
    c.own_view-view.ensures c.letter_view-letter.ensures

pub after_leaving-requires : goal.after_leaving-requires
after_leaving-requires g c = may_note_fall c.self.invariant c.args.who c.args.message (g.V.View.held c.own_view-view.result.now) (g.V.View.held c.letter_view-letter.result.now) c.own_view-view.ensures c.letter_view-letter.ensures (g.V.View.held c.in_ok-merged.merged) c.in_ok-merged.ensures c.fall.new.self.history (c.fall.ensures.history ∙ ap (moved fall) (c.in_ok-history.ensures ∙ c.own_history.ensures)) (rw (← c.self.view_is) at c.requires.kind)

pub returns : goal.returns
returns g c = rw (← c.self.view_is) (by_fall c.self.invariant c.args.who c.args.message (g.V.View.held c.own_view-view.result.now) (g.V.View.held c.letter_view-letter.result.now) c.own_view-view.ensures c.letter_view-letter.ensures (g.V.View.held c.in_ok-merged.merged) c.in_ok-merged.ensures c.fall.new.self.history (c.fall.ensures.history ∙ ap (moved fall) (c.in_ok-history.ensures ∙ c.own_history.ensures)) (rw (← c.self.view_is) at c.requires.kind) c.in_ok-next.next c.own.result c.own.ensures c.in_ok-next.ensures)
