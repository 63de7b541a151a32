use Rattle.std.proofs.Common.{◌∙◌, ℕ, Option, refl, ap, subst}
use Rattle.tau_tree.specs.declared.programs.Program.{Program}
use Rattle.tau_trace.specs.Run.{Run, len}
use Rattle.tau_script.specs.Cursors.{CursorAt}
use Rattle.tau_failures.specs.LegalRun.{LegalRun}
use Rattle.tau_check.specs.Inner.Checkers.{HasSteppedTo}
use Rattle.tau_check.proofs.Coming.{whole}
use Rattle.tau_check.proofs.following.follow.Goals as goal

pub unreachable-requires : goal.unreachable-requires
unreachable-requires c =
    let P : Program = c.args.program.now in
    let T : Run = c.args.trace.now.run in
    let checker = c.in_ok-checker.checker in
    let first = subst (λ (bad : Option ℕ). HasSteppedTo P T checker.legal.system checker.jobs.items bad) c.in-Some.is c.in_ok-checker.ensures in
    absurd (first.illegal (c.requires.legal.steps c.in-Some.field-0 first.step first.stands))

pub returns-clause-program : goal.returns-clause-program
returns-clause-program c =
    let P : Program = c.args.program.now in
    let T : Run = c.args.trace.now.run in
    let checker = c.in_ok-checker.checker in
    let come = subst (λ (bad : Option ℕ). HasSteppedTo P T checker.legal.system checker.jobs.items bad) c.in-None.is c.in_ok-checker.ensures in
    ap (λ (k : LegalRun). k.system.program) c.into_system.ensures.system ∙ come.program

pub returns-clause-run : goal.returns-clause-run
returns-clause-run c =
    let P : Program = c.args.program.now in
    let T : Run = c.args.trace.now.run in
    let checker = c.in_ok-checker.checker in
    let come = subst (λ (bad : Option ℕ). HasSteppedTo P T checker.legal.system checker.jobs.items bad) c.in-None.is c.in_ok-checker.ensures in
    ap (λ (k : LegalRun). k.system.run) c.into_system.ensures.system ∙ whole P T (len T) checker.legal.system checker.jobs.items come refl

pub returns-clause-cursor : goal.returns-clause-cursor
returns-clause-cursor c =
    let P : Program = c.args.program.now in
    let T : Run = c.args.trace.now.run in
    let checker = c.in_ok-checker.checker in
    let come = subst (λ (bad : Option ℕ). HasSteppedTo P T checker.legal.system checker.jobs.items bad) c.in-None.is c.in_ok-checker.ensures in
    let run = checker.legal.system.run in
    let cursor = c.into_system.result.cursor in
    let stands : CursorAt P.script run (len run) cursor = subst (λ (p : Program). CursorAt p.script run (len run) cursor) come.program c.into_system.ensures.cursor in
    subst (λ (U : Run). CursorAt P.script U (len U) cursor) (whole P T (len T) checker.legal.system checker.jobs.items come refl) stands
