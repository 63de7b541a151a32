use Rattle.std.proofs.Common.{◌≡◌, Option, Some, None, sym, ◌∙◌}
use Rattle.tau_trace.specs.declared.step.Step.{Step}
use Rattle.tau_trace.specs.Run.{len}
use Rattle.tau_script.specs.Scripts.{IsDue}
use Rattle.tau_revival.proofs.reviving.pass_due.Goals as goal

pub returns-in-Some-clause-due : goal.returns-in-Some-clause-due
returns-in-Some-clause-due c = λ leads yes none.
    let S = c.args.script.now in
    let T = c.args.so_far.now.run in
    let is = (c.scripts_are_determined.ensures S T (len T)).step_is in
    let some : IsDue S T (len T) (Some c.in-Some.step) = record { cursor = c.due.new.cursor; stands = leads c.due.new.cursor c.in-Some.ensures.passes; due = c.in-Some.ensures.due } in
    let same : ◌≡◌ {A = Option Step} (Some c.in-Some.step) None = (is (Some c.in-Some.step)).0 some ∙ sym ((is None).0 none) in
    cc
