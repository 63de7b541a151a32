use Rattle.std.proofs.Common.{refl, sym, subst}
use Rattle.tau_history.specs.Timeline.{newborn}
use Rattle.tau_view.specs.Laws.{MayNote}
use Rattle.tau_views.proofs.Making.{may_note_new, by_new}
use Rattle.tau_views.proofs.preparing.NextStep.by_new.Goals as goal

pub after_new-requires : goal.after_new-requires
after_new-requires g c = subst (λ u. MayNote u newborn (g.V.View.held c.own_view.result.now).history) (sym c.born.ensures) (may_note_new c.self.invariant c.args.who (g.V.View.held c.own_view.result.now) c.own_view.ensures (rw (← c.self.view_is) at c.requires.by))

pub returns : goal.returns
returns g c = rw (← c.self.view_is) (by_new c.self.invariant c.args.who (g.V.View.held c.own_view.result.now) c.own_view.ensures c.born.result c.in_ok-next.next c.in_ok-newborn.newborn _ c.born.ensures (rw (← c.self.view_is) at c.requires.by) (rw (← c.self.view_is) at c.requires.kind) c.in_ok-next.ensures c.in_ok-newborn.ensures refl)
