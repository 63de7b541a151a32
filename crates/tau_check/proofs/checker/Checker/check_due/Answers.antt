use Rattle.std.proofs.Common.{◌≡◌, ◌∙◌, sym}
use Rattle.tau_rules.specs.System.{Core}
use Rattle.tau_failures.specs.Dues.{step_of}
use Rattle.tau_check.proofs.Endings.{other_illegal, goes_on_due, not_same}
use Rattle.tau_check.proofs.checker.Checker.check_due.Goals as goal

pub returns-then-not-same_step : goal.returns-then-not-same_step
returns-then-not-same_step c =
    let old : Core = c.args.self.now.legal.system in
    other_illegal old.program old.run (step_of c.args.due) c.args.step.now c.requires.asked (λ e. not_same c.step.result c.args.step.now c.same_step.result c.same_step.ensures c.if-not-same_step.true (c.step.ensures ∙ e))

pub returns : goal.returns
returns c =
    let old : Core = c.args.self.now.legal.system in
    let new : Core = c.make_due.new.self.system in
    let same : step_of c.args.due ≡ c.args.step.now = sym c.step.ensures ∙ c.same_step.ensures.0 c.if-not-same_step.false in
    goes_on_due old new (step_of c.args.due) c.args.step.now c.args.self.now.jobs.items c.requires.asked same c.requires.has_jobs c.make_due.ensures.well_formed c.make_due.ensures.legal c.in_ok-make_due.ensures.ok
