use Rattle.std.proofs.Common.{◌≡◌, ℕ, suc, List, None, length, sym, ap, ◌∙◌, subst, arith, add-one}
use Rattle.std.specs.Option.{option_copied}
use Rattle.tau_trace.specs.Run.{step_at}
use Rattle.tau_drawing.specs.declared.messages.bearers.Bearer.{Bearer}
use Rattle.tau_drawing.specs.Messages.Inner.Bearers.{AreBearers}
use Rattle.tau_drawing.proofs.BearerLemmas.{bearers_first, bearers_next, past_last}
use Rattle.tau_drawing.proofs.messages.bearers.bearers_of.Goals as goal

pub loop-place-init : goal.loop-place-init
loop-place-init c =
    bearers_first c.args.trace.now.run _ c.in_ok-bearers.bearers.items (c.len.ensures ∙ ap (λ o. length o.targets) c.opening.ensures.value) c.in_ok-bearers.ensures

pub unreachable-requires : goal.unreachable-requires
unreachable-requires c =
    let T = c.args.trace.now.run in
    let none : None ≡ step_at T c.loop-place.place = sym (ap option_copied c.in-None.is) ∙ c.step.ensures in
    omega (arith, past_last T c.loop-place.place none, c.loop-place-test.true, c.len-steps.ensures.len)

pub loop-place-preserved : goal.loop-place-preserved
loop-place-preserved c =
    let T = c.args.trace.now.run in
    let k = c.loop-place.place in
    rw add-one (subst (λ (bs : List Bearer). AreBearers T (suc k) bs) (sym c.in_ok-add_made-in-Some.ensures)
    (bearers_next T k c.in-Some.step.now c.loop-place.bearers.items c.len-steps.ensures.well_formed (sym c.in-Some.ensures) c.loop-place.invariant))

pub returns-clause-bearers : goal.returns-clause-bearers
returns-clause-bearers c =
    let T = c.args.trace.now.run in
    subst (λ (n : ℕ). AreBearers T n c.loop-place.bearers.items) (omega (arith, c.loop-place-test.false, c.loop-place.auto.place-end, c.len-steps.ensures.len)) c.loop-place.invariant
