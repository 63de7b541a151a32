use Rattle.std.proofs.Common.{◌≡◌, ◌++◌, ◌+◌, length, map, refl, subst, arith}
use Rattle.std.proofs.lemmas.List.{length-map, length-append}
use Rattle.std.proofs.lemmas.Result.{err_from_is_err_and}
use Rattle.tau_sexpr.specs.Form.{tree_of}
use Rattle.tau_steps.specs.Inner.Reading.{AddsStep}
use Rattle.tau_steps.proofs.LoopLemmas.{IsReadTo, item_behind, fault_told, one_more, read_before, read_whole}
use Rattle.tau_steps.proofs.reading.add_steps.Goals as goal

pub loop-form-init : goal.loop-form-init
loop-form-init c o before means =
    let all = before ++ map tree_of c.args.forms.now in
    let none : length before ≡ length before + 0 = omega arith in
    subst (λ n. IsReadTo o all n c.args.trace.now.run) none (read_before o before (map tree_of c.args.forms.now) c.args.trace.now.run means)

pub returns-in_err-add_step-clause-fault : goal.returns-in_err-add_step-clause-fault
returns-in_err-add_step-clause-fault c o before means =
    let p = err_from_is_err_and c.from_residual.result c.from_residual.ensures.1 in
    let forms = c.args.forms.now in
    let k = c.loop-form.form-index in
    let all = before ++ map tree_of forms in
    let stands = item_behind before forms (length before + k) k c.form-item.result refl c.loop-form-test.true c.form-item.is in
    let told = subst (AddsStep c.loop-form.trace.run (tree_of c.form-item.result) c.add_step.new.trace.run) c.in_err-add_step.was c.add_step.ensures in
    rw (p.1, p.2) (fault_told o all (length before + k) c.loop-form.trace.run (omega (arith, length-append before (map tree_of forms), length-map forms tree_of)) (c.loop-form.invariant o before means) (tree_of c.form-item.result) stands c.add_step.new.trace.run c.in_err-add_step.field-0.0 told)

pub loop-form-preserved : goal.loop-form-preserved
loop-form-preserved c o before means =
    let forms = c.args.forms.now in
    let k = c.loop-form.form-index in
    let all = before ++ map tree_of forms in
    let stands = item_behind before forms (length before + k) k c.form-item.result refl c.loop-form-test.true c.form-item.is in
    let told = subst (AddsStep c.loop-form.trace.run (tree_of c.form-item.result) c.add_step.new.trace.run) c.in_ok-add_step.was c.add_step.ensures in
    let next : length before + k + 1 ≡ length before + (k + 1) = omega arith in
    subst (λ n. IsReadTo o all n c.add_step.new.trace.run) next (one_more o all (length before + k) c.loop-form.trace.run (omega (arith, length-append before (map tree_of forms), length-map forms tree_of)) (c.loop-form.invariant o before means) (tree_of c.form-item.result) stands c.add_step.new.trace.run told)

pub returns-clause-steps : goal.returns-clause-steps
returns-clause-steps c o before means =
    let forms = c.args.forms.now in
    read_whole o (before ++ map tree_of forms) (length before + c.loop-form.form-index) c.loop-form.trace.run (omega (arith, length-append before (map tree_of forms), length-map forms tree_of)) (c.loop-form.invariant o before means)
