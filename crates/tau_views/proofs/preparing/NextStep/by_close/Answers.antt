use Rattle.std.proofs.Common.{ap, ◌∙◌, arith}
use Rattle.tau_history.specs.Timeline.{moved, close, interval}
use Rattle.tau_trace.specs.Steps.{actor}
use Rattle.tau_views.proofs.Next.{may_close}
use Rattle.tau_views.proofs.Leaving.{may_note_close, by_close}
use Rattle.tau_views.proofs.preparing.NextStep.by_close.Goals as goal

pub close-requires-clause-fits : goal.close-requires-clause-fits
close-requires-clause-fits g c = omega (arith, may_close c.self.invariant c.args.who, ap interval (c.in_ok-history.ensures ∙ c.own_history.ensures))

pub after_leaving-requires : goal.after_leaving-requires
after_leaving-requires g c = may_note_close c.self.invariant c.args.who (g.V.View.held c.own_view-view.result.now) c.own_view-view.ensures (ap actor (rw (← c.self.view_is) at c.requires.kind)) c.close.new.self.history (rw (← c.self.view_is) at c.requires.kind) (c.in_ok-close.ensures.ok ∙ ap (moved close) (c.in_ok-history.ensures ∙ c.own_history.ensures))

pub returns : goal.returns
returns g c = rw (← c.self.view_is) (by_close c.self.invariant c.args.who (g.V.View.held c.own_view-view.result.now) c.own_view-view.ensures (ap actor (rw (← c.self.view_is) at c.requires.kind)) c.in_ok-next.next c.own.result c.own.ensures c.close.new.self.history (rw (← c.self.view_is) at c.requires.kind) (c.in_ok-close.ensures.ok ∙ ap (moved close) (c.in_ok-history.ensures ∙ c.own_history.ensures)) c.in_ok-next.ensures)
