use Rattle.std.proofs.Common.{ap, ◌∙◌, arith}
use Rattle.tau_history.specs.Timeline.{moved, fall}
use Rattle.tau_views.proofs.Next.{may_fall}
use Rattle.tau_views.proofs.Leaving.{may_note_fall, by_leaving}
use Rattle.tau_views.proofs.preparing.NextStep.by_leaving.Goals as goal

pub fall-requires : goal.fall-requires
fall-requires g c = omega (arith, may_fall c.self.invariant c.args.who, ap (λ h. h.last) (c.in_ok-history.ensures ∙ c.own_history.ensures))

pub after_leaving-requires : goal.after_leaving-requires
after_leaving-requires g c = may_note_fall c.self.invariant c.args.who (g.V.View.held c.own_view-view.result.now) c.own_view-view.ensures (rw (← c.self.view_is) at c.requires.by) c.fall.new.self.history (c.fall.ensures.history ∙ ap (moved fall) (c.in_ok-history.ensures ∙ c.own_history.ensures))

pub returns : goal.returns
returns g c = rw (← c.self.view_is) (by_leaving c.self.invariant c.args.who (g.V.View.held c.own_view-view.result.now) c.own_view-view.ensures (rw (← c.self.view_is) at c.requires.by) c.in_ok-next.next c.own.result c.own.ensures c.fall.new.self.history (rw (← c.self.view_is) at c.requires.falls) (rw (← c.self.view_is) at c.requires.alone) (c.fall.ensures.history ∙ ap (moved fall) (c.in_ok-history.ensures ∙ c.own_history.ensures)) c.in_ok-next.ensures)
