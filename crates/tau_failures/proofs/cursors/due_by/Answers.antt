use Rattle.std.proofs.Common.{Option, sym, subst}
use Rattle.tau_tree.specs.declared.programs.Program.{Program}
use Rattle.tau_trace.specs.declared.step.Step.{Step}
use Rattle.tau_trace.specs.Run.{Run, len}
use Rattle.tau_script.specs.Cursors.{IsDueAt}
use Rattle.tau_failures.proofs.DueLemmas.{due_failure}
use Rattle.tau_failures.proofs.cursors.due_by.Goals as goal

pub due_of-requires : goal.due_of-requires
due_of-requires g c = due_failure c.program.result.now.script c.trace.result.now.run (len c.trace.result.now.run) c.due-step.new.cursor c.due-step.result c.due-step.ensures.due

pub returns-clause-due : goal.returns-clause-due
returns-clause-due g c =
    let P : Program = c.args.system.now.program in
    let there = subst (λ (p : Program). IsDueAt p.script c.trace.result.now.run (len c.trace.result.now.run) c.due-step.new.cursor c.due-step.result) c.program.ensures.program c.due-step.ensures.due in
    let here = subst (λ (T : Run). IsDueAt P.script T (len T) c.due-step.new.cursor c.due-step.result) c.trace.ensures.run there in
    subst (λ (o : Option Step). IsDueAt P.script c.args.system.now.run (len c.args.system.now.run) c.due-step.new.cursor o) (sym c.due_of.ensures) here
