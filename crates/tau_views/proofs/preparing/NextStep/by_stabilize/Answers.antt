use Rattle.std.proofs.Common.{ap, ◌∙◌}
use Rattle.tau_history.specs.Timeline.{moved, stabilize}
use Rattle.tau_trace.specs.Steps.{actor}
use Rattle.tau_views.proofs.Leaving.{may_note_stable}
use Rattle.tau_views.proofs.Touching.{by_stabilize}
use Rattle.tau_views.proofs.preparing.NextStep.by_stabilize.Goals as goal

pub after_stabilize-requires : goal.after_stabilize-requires
after_stabilize-requires g c = may_note_stable c.self.invariant c.args.who (g.V.View.held c.own_view-view.result.now) c.own_view-view.ensures (ap actor (rw (← c.self.view_is) at c.requires.kind)) c.stabilize.new.self.history (c.stabilize.ensures.history ∙ ap (moved stabilize) (c.in_ok-history.ensures ∙ c.own_history.ensures))

pub returns : goal.returns
returns g c = rw (← c.self.view_is) (by_stabilize c.self.invariant c.args.who (g.V.View.held c.own_view-view.result.now) c.in_ok-next.next c.own.result c.own_point.result c.own_view-view.ensures c.own_point.ensures c.own.ensures (ap actor (rw (← c.self.view_is) at c.requires.kind)) c.stabilize.new.self.history (rw (← c.self.view_is) at c.requires.kind) (c.stabilize.ensures.history ∙ ap (moved stabilize) (c.in_ok-history.ensures ∙ c.own_history.ensures)) c.in_ok-next.ensures)
