use Rattle.std.proofs.Common.{◌≡◌, ℕ, Bool, sym, subst, arith}
use Rattle.tau_trace.specs.Run.{Run, len}
use Rattle.tau_tree.specs.declared.programs.Program.{Program}
use Rattle.tau_check.specs.Inner.Checkers.{IsChecked, HasCome}
use Rattle.tau_check.proofs.Coming.{come_to_first, next_follows, first_illegal, come_after}
use Rattle.tau_check.proofs.following.step_through.Goals as goal

pub loop-place-init : goal.loop-place-init
loop-place-init c = come_to_first c.args.program.now c.args.trace.now.run c.in_ok-checker.checker.legal.system c.in_ok-checker.checker.jobs.items c.len-length.ensures.well_formed c.requires.opening c.in_ok-checker.ensures.program c.in_ok-checker.ensures.run

pub step-requires-in-loop-place-clause-follows : goal.step-requires-in-loop-place-clause-follows
step-requires-in-loop-place-clause-follows c =
    let P : Program = c.args.program.now in
    let T : Run = c.args.trace.now.run in
    next_follows P T c.loop-place.place c.loop-place.checker.legal.system c.loop-place.checker.jobs.items c.len-length.ensures.well_formed c.loop-place.invariant c.in-Some.step.now (sym c.in-Some.ensures)

pub returns-then-not-is_legal : goal.returns-then-not-is_legal
returns-then-not-is_legal c =
    let P : Program = c.args.program.now in
    let T : Run = c.args.trace.now.run in
    let checker = c.loop-place.checker in
    let after = c.step-in-loop-place.new.self in
    first_illegal P T c.loop-place.place checker.legal.system checker.jobs.items c.len-length.ensures.well_formed c.loop-place.invariant c.in-Some.step.now (sym c.in-Some.ensures)
    (subst (λ (b : Bool). IsChecked checker.legal.system after.legal.system after.jobs.items c.in-Some.step.now b) c.if-not-is_legal.true c.in_ok-is_legal.ensures)

pub loop-place-preserved : goal.loop-place-preserved
loop-place-preserved c =
    let P : Program = c.args.program.now in
    let T : Run = c.args.trace.now.run in
    let checker = c.loop-place.checker in
    let after = c.step-in-loop-place.new.self in
    come_after P T c.loop-place.place checker.legal.system checker.jobs.items c.len-length.ensures.well_formed c.loop-place.invariant after.legal.system after.jobs.items c.in-Some.step.now (sym c.in-Some.ensures)
    (subst (λ (b : Bool). IsChecked checker.legal.system after.legal.system after.jobs.items c.in-Some.step.now b) c.if-not-is_legal.false c.in_ok-is_legal.ensures)

pub returns : goal.returns
returns c =
    let P : Program = c.args.program.now in
    let T : Run = c.args.trace.now.run in
    let checker = c.loop-place.checker in
    let ends : c.loop-place.place ≡ len T = omega (arith, c.len-length.ensures.len, c.loop-place-test.false) in
    subst (λ (k : ℕ). HasCome P T k checker.legal.system checker.jobs.items) ends c.loop-place.invariant
