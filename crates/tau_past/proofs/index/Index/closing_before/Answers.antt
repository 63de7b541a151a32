use Rattle.std.proofs.Common.{subst, sym, ap, ◌∙◌, arith, Some, ◌≡◌, ◌↔◌}
use Rattle.std.specs.Prelude.{slice_get}
use Rattle.tau_past.specs.Tables.{ClosesBefore}
use Rattle.tau_past.proofs.Endings.{closing_told, unknown_not_closed}
use Rattle.tau_past.proofs.index.Index.closing_before.Goals as goal
use Rattle.tau_trace.proofs.Reading.{past_end}

pub returns-in-Some : goal.returns-in-Some
returns-in-Some c = λ q.
    let R = c.self.inside.trace.now.run in
    let p = c.args.point.now in
    let at = ap (λ xs. slice_get xs p.who) (sym c.deref.ensures.value) in
    subst (λ r. ClosesBefore r p q ↔ (c.closing_in.result ≡ Some q)) c.self.view_is
    (closing_told R p q c.in-Some.history.now.history c.closing_in.result (c.self.invariant.histories.each p.who c.in-Some.history.now (at ∙ sym c.in-Some.ensures)) c.closing_in.ensures)

pub returns-in-None : goal.returns-in-None
returns-in-None c = λ q.
    let R = c.self.inside.trace.now.run in
    let p = c.args.point.now in
    let at = ap (λ xs. slice_get xs p.who) (sym c.deref.ensures.value) in
    let none = past_end c.self.inside.histories.items p.who (at ∙ sym c.in-None.ensures) in
    (λ r. absurd (unknown_not_closed R p q c.self.invariant.well_formed (omega (arith, none, c.self.invariant.histories.count)) (subst (λ x. ClosesBefore x p q) (sym c.self.view_is) r)), λ e. absurd (cc))
