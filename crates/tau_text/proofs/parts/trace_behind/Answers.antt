use Rattle.std.proofs.Common.{◌+◌, length, codes, ap, ◌∙◌, subst, arith}
use Rattle.tau_script.specs.Openings.{program_opening}
use Rattle.tau_steps.specs.Faults as steps
use Rattle.tau_steps.specs.Meaning.{MeansSteps}
use Rattle.tau_steps.proofs.LoopLemmas.{range_told}
use Rattle.tau_text.specs.Parts.{before, step_forms}
use Rattle.tau_text.proofs.AnswerLemmas.{from_steps}
use Rattle.tau_text.proofs.PartLemmas.{steps_within, steps_range}
use Rattle.tau_text.proofs.parts.trace_behind.Goals as goal

pub overflow_add-to : goal.overflow_add-to
overflow_add-to c =
    let counted = c.place_of_mark.ensures ∙ ap (λ ts. length (before (codes "report") ts)) (range_told c.items.result.now c.args.forms.now (c.args.mark + 1) c.len-end.result c.items.ensures) in
    omega (arith, steps_within c.args.forms.now c.args.mark c.len-end.result c.place_of_mark.result c.requires.mark c.len-end.ensures counted (omega (arith, c.len-end.ensures, c.requires.marked)))

pub steps_of-requires-clause-within : goal.steps_of-requires-clause-within
steps_of-requires-clause-within c =
    let counted = c.place_of_mark.ensures ∙ ap (λ ts. length (before (codes "report") ts)) (range_told c.items.result.now c.args.forms.now (c.args.mark + 1) c.len-end.result c.items.ensures) in
    omega (arith, c.len-end.ensures, steps_within c.args.forms.now c.args.mark c.len-end.result c.place_of_mark.result c.requires.mark c.len-end.ensures counted (omega (arith, c.len-end.ensures, c.requires.marked)))

pub returns-in_err-steps_of-clause-fault : goal.returns-in_err-steps_of-clause-fault
returns-in_err-steps_of-clause-fault c =
    let counted = c.place_of_mark.ensures ∙ ap (λ ts. length (before (codes "report") ts)) (range_told c.items.result.now c.args.forms.now (c.args.mark + 1) c.len-end.result c.items.ensures) in
    let range = steps_range c.args.forms.now c.args.mark c.len-end.result c.place_of_mark.result c.requires.mark c.len-end.ensures counted in
    let error = c.in_err-steps_of.field-0.0 in
    let there = subst (λ ts. steps.IsFault c.in_ok-opening.opening ts error) range c.in_err-steps_of.ensures.fault in
    from_steps c.from_residual-in_err-steps_of.result (program_opening c.args.program.now) (step_forms c.args.forms.now) error c.from_residual-in_err-steps_of.ensures.1 (subst (λ o. steps.IsFault o (step_forms c.args.forms.now) error) c.in_ok-opening.ensures.opening there)

pub returns-clause-trace : goal.returns-clause-trace
returns-clause-trace c =
    let counted = c.place_of_mark.ensures ∙ ap (λ ts. length (before (codes "report") ts)) (range_told c.items.result.now c.args.forms.now (c.args.mark + 1) c.len-end.result c.items.ensures) in
    let range = steps_range c.args.forms.now c.args.mark c.len-end.result c.place_of_mark.result c.requires.mark c.len-end.ensures counted in
    let there = subst (λ ts. MeansSteps c.in_ok-opening.opening ts c.in_ok-steps_of.field-0.run) range c.in_ok-steps_of.ensures.trace in
    subst (λ o. MeansSteps o (step_forms c.args.forms.now) c.in_ok-steps_of.field-0.run) c.in_ok-opening.ensures.opening there
