use Rattle.std.proofs.Common.{◌∙◌, ◌<◌, length, sym, ap, subst}
use Rattle.tau_tree.specs.declared.programs.Program.{Program}
use Rattle.tau_trace.specs.declared.step.Step.{Step}
use Rattle.tau_trace.specs.Run.{len}
use Rattle.tau_script.specs.Cursors.{moved_past}
use Rattle.tau_script.specs.Scripts.{DueStep}
use Rattle.tau_script.proofs.Passing.{object_fits}
use Rattle.tau_rules.specs.System.{Core}
use Rattle.tau_failures.specs.Dues.{step_of}
use Rattle.tau_failures.specs.LegalRun.{LegalRun}
use Rattle.tau_failures.proofs.DueLemmas.{due_object, due_entry, due_repeats}
use Rattle.tau_failures.proofs.Steps.{after_due}
use Rattle.tau_failures.proofs.systems.LegalSystem.make_due.Goals as goal

pub passed-requires-clause-entry : goal.passed-requires-clause-entry
passed-requires-clause-entry g c =
    let s = c.self.inside in
    let due : DueStep s.system.program.script s.system.run (len s.system.run) (step_of c.args.due) = subst (λ (r : LegalRun). DueStep r.system.program.script r.system.run (len r.system.run) (step_of c.args.due)) (sym c.self.view_is) c.requires.due in
    subst (λ (p : Program). s.cursor.entry < length p.script) (sym c.program.ensures.program) (due_entry s.system.program s.system.run s.cursor c.self.invariant (step_of c.args.due) due)

pub passed-requires-clause-who : goal.passed-requires-clause-who
passed-requires-clause-who g c =
    let s = c.self.inside in
    let due : DueStep s.system.program.script s.system.run (len s.system.run) (step_of c.args.due) = subst (λ (r : LegalRun). DueStep r.system.program.script r.system.run (len r.system.run) (step_of c.args.due)) (sym c.self.view_is) c.requires.due in
    λ t e. object_fits s.system.run (step_of c.args.due) c.self.invariant.well_formed (due_object s.system.program s.system.run (step_of c.args.due) due) t (sym c.step.ensures ∙ e)

pub make-requires-clause-object : goal.make-requires-clause-object
make-requires-clause-object g c =
    let s = c.self.inside in
    let due : DueStep s.system.program.script s.system.run (len s.system.run) (step_of c.args.due) = subst (λ (r : LegalRun). DueStep r.system.program.script r.system.run (len r.system.run) (step_of c.args.due)) (sym c.self.view_is) c.requires.due in
    due_object s.system.program s.system.run (step_of c.args.due) due

pub make-requires-clause-version : goal.make-requires-clause-version
make-requires-clause-version g c =
    let s = c.self.inside in
    let due : DueStep s.system.program.script s.system.run (len s.system.run) (step_of c.args.due) = subst (λ (r : LegalRun). DueStep r.system.program.script r.system.run (len r.system.run) (step_of c.args.due)) (sym c.self.view_is) c.requires.due in
    λ m e. due_repeats s.system.program s.system.run s.cursor c.self.invariant (step_of c.args.due) m due e

pub invariant_of-self-2 : goal.invariant_of-self-2
invariant_of-self-2 g c =
    let s = c.self.inside in
    let old : Core = s.system in
    let new : Core = c.make.new.system in
    let due : DueStep old.program.script old.run (len old.run) (step_of c.args.due) = subst (λ (r : LegalRun). DueStep r.system.program.script r.system.run (len r.system.run) (step_of c.args.due)) (sym c.self.view_is) c.requires.due in
    after_due old new s.cursor c.passed.new.cursor c.due_by-due.new.cursor c.self.invariant c.due_by-due.ensures.well_formed c.due_by-due.ensures.fitting c.due_by-due.ensures.current
    (step_of c.args.due) due c.in_ok-make.ensures.ok (c.passed.ensures ∙ ap (λ (x : Step). moved_past x s.cursor) c.step.ensures)

pub returns-clause-legal : goal.returns-clause-legal
returns-clause-legal g c =
    let s = c.self.inside in
    let old : Core = s.system in
    let new : Core = c.make.new.system in
    let due : DueStep old.program.script old.run (len old.run) (step_of c.args.due) = subst (λ (r : LegalRun). DueStep r.system.program.script r.system.run (len r.system.run) (step_of c.args.due)) (sym c.self.view_is) c.requires.due in
    (after_due old new s.cursor c.passed.new.cursor c.due_by-due.new.cursor c.self.invariant c.due_by-due.ensures.well_formed c.due_by-due.ensures.fitting c.due_by-due.ensures.current
    (step_of c.args.due) due c.in_ok-make.ensures.ok (c.passed.ensures ∙ ap (λ (x : Step). moved_past x s.cursor) c.step.ensures)).legal
