use Rattle.std.proofs.Common.{subst, sym, ap, ◌∙◌, arith, IsTrue, ◌↔◌}
use Rattle.std.specs.Prelude.{slice_get}
use Rattle.tau_past.specs.Safety.{RolledBack}
use Rattle.tau_past.proofs.Endings.{rolled_back_told, unknown_not_rolled_back}
use Rattle.tau_past.proofs.index.Index.is_rolled_back.Goals as goal
use Rattle.tau_trace.proofs.Reading.{past_end}

pub returns-in-Some : goal.returns-in-Some
returns-in-Some c =
    let R = c.self.inside.trace.now.run in
    let p = c.args.point.now in
    let at = ap (λ xs. slice_get xs p.who) (sym c.deref.ensures.value) in
    subst (λ r. IsTrue c.is_fallen.result ↔ RolledBack r p) c.self.view_is
    (rolled_back_told R p c.in-Some.history.now.history c.fate.result c.is_fallen.result (c.self.invariant.histories.each p.who c.in-Some.history.now (at ∙ sym c.in-Some.ensures)) c.fate.ensures c.is_fallen.ensures)

pub returns-in-None : goal.returns-in-None
returns-in-None c =
    let R = c.self.inside.trace.now.run in
    let p = c.args.point.now in
    let at = ap (λ xs. slice_get xs p.who) (sym c.deref.ensures.value) in
    let none = past_end c.self.inside.histories.items p.who (at ∙ sym c.in-None.ensures) in
    (λ t. absurd (cc), λ r. absurd (unknown_not_rolled_back R p c.self.invariant.well_formed (omega (arith, none, c.self.invariant.histories.count)) (subst (λ x. RolledBack x p) (sym c.self.view_is) r)))
