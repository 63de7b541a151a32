use Rattle.std.proofs.Common.{sym, arith}
use Rattle.tau_steps.proofs.StepFormLemmas.{form_depth, form_words}
use Rattle.tau_steps.proofs.writing.form_of_step.Goals as goal

pub returns-clause-depth : goal.returns-clause-depth
returns-clause-depth c =
    form_depth c.args.trace.now.run c.len-steps.ensures.well_formed c.args.place c.in-Some-Some.made c.in-Some-Some.step.now (sym c.in-Some-Some.ensures)
    c.opening.result.now c.opening.ensures.value c.write_step.result c.write_step.ensures.form c.write_step.ensures.value

pub returns-clause-words : goal.returns-clause-words
returns-clause-words c =
    form_words c.args.trace.now.run c.len-steps.ensures.well_formed c.args.place c.in-Some-Some.made c.in-Some-Some.step.now (sym c.in-Some-Some.ensures)
    c.opening.result.now c.opening.ensures.value c.write_step.result c.write_step.ensures.form c.write_step.ensures.value (omega arith)
