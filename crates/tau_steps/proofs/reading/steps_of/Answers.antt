use Rattle.std.proofs.Common.{[], sym, subst}
use Rattle.std.specs.List.{slice_range}
use Rattle.tau_steps.specs.Faults.{IsFault}
use Rattle.tau_steps.specs.Meaning.{MeansSteps}
use Rattle.tau_steps.proofs.LoopLemmas.{range_told, no_steps, none_told, handed_on}
use Rattle.tau_steps.proofs.reading.steps_of.Goals as goal

pub returns-in_err-add_steps-clause-fault : goal.returns-in_err-add_steps-clause-fault
returns-in_err-add_steps-clause-fault c =
    let o = c.args.opening in
    let error = c.in_err-add_steps.field-0.0 in
    let none = subst (MeansSteps o []) (sym c.in_ok-trace.ensures) (no_steps o) in
    let range = range_told c.items.result.now c.args.forms.now c.args.from c.args.to c.items.ensures in
    let fault = subst (λ fs. IsFault o fs error) range (c.in_err-add_steps.ensures.fault o [] none) in
    handed_on o (slice_range c.args.forms.now c.args.from c.args.to) c.from_residual-in_err-add_steps.result error c.from_residual-in_err-add_steps.ensures.1 fault

pub returns-in_err-add_steps-clause-read : goal.returns-in_err-add_steps-clause-read
returns-in_err-add_steps-clause-read c T means =
    let o = c.args.opening in
    let forms = slice_range c.args.forms.now c.args.from c.args.to in
    let error = c.in_err-add_steps.field-0.0 in
    let none = subst (MeansSteps o []) (sym c.in_ok-trace.ensures) (no_steps o) in
    let range = range_told c.items.result.now c.args.forms.now c.args.from c.args.to c.items.ensures in
    let fault = subst (λ fs. IsFault o fs error) range (c.in_err-add_steps.ensures.fault o [] none) in
    none_told o forms T c.from_residual-in_err-add_steps.result means (handed_on o forms c.from_residual-in_err-add_steps.result error c.from_residual-in_err-add_steps.ensures.1 fault)

pub returns-clause-trace : goal.returns-clause-trace
returns-clause-trace c =
    let o = c.args.opening in
    let none = subst (MeansSteps o []) (sym c.in_ok-trace.ensures) (no_steps o) in
    let range = range_told c.items.result.now c.args.forms.now c.args.from c.args.to c.items.ensures in
    subst (λ fs. MeansSteps o fs c.add_steps.new.trace.run) range (c.in_ok-add_steps.ensures.steps o [] none)
