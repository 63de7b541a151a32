use Rattle.std.proofs.Common.{◌-◌, length, slice_get, List, ap, ◌∙◌}
use Rattle.tau_eval.specs.declared.frames.Frame.{Frame}
use Rattle.tau_eval.proofs.MachineLemmas.{released, cut_by_leave, cut_by_next}
use Rattle.tau_eval.proofs.machine.Machine.release.Goals as goal

pub returns-in-Some-Leave-clause-goes : goal.returns-in-Some-Leave-clause-goes
returns-in-Some-Leave-clause-goes c = λ s. released c.args.self.now.frames.items c.in-Some-Leave.field-0.now s c.args.self.now.scope c.cut.new.self (c.in-Some-Leave.ensures.value ∙ ap (λ (fs : List Frame). slice_get fs (length fs - 1)) c.deref.ensures.value) (cut_by_leave c.in-Some-Leave.field-0.now c.in-Some-Leave.height c.args.self.now.scope c.cut.new.self c.in-Some-Leave.field-0-is c.cut.ensures)

pub returns-in-Some-Next-clause-goes : goal.returns-in-Some-Next-clause-goes
returns-in-Some-Next-clause-goes c = λ s. released c.args.self.now.frames.items c.in-Some-Next.field-0.now s c.args.self.now.scope c.cut-in-Some-Next.new.self (c.in-Some-Next.ensures.value ∙ ap (λ (fs : List Frame). slice_get fs (length fs - 1)) c.deref.ensures.value) (cut_by_next c.in-Some-Next.field-0.now c.in-Some-Next.height c.in-Some-Next.field-0-1 c.in-Some-Next.field-0-2 c.in-Some-Next.field-0-3 c.args.self.now.scope c.cut-in-Some-Next.new.self c.in-Some-Next.field-0-is c.cut-in-Some-Next.ensures)
