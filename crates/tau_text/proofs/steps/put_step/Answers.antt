use Rattle.std.proofs.Common.{sym, arith}
use Rattle.tau_text.proofs.StepTexts.{line_added}
use Rattle.tau_text.proofs.steps.put_step.Goals as goal

pub returns : goal.returns
returns c =
    line_added c.args.trace.now.run c.len-steps.ensures.well_formed c.args.place c.in-Some-Some.made c.in-Some-Some.step.now c.opening.result.now
    (sym c.in-Some-Some.ensures) c.in-Some-Some.ensures'.made (omega arith) c.opening.ensures.value
    c.put_line.result c.args.out.now.items c.put_line.new.out.items c.put_line.ensures.text c.put_line.ensures.bytes c.put_line.ensures.value
