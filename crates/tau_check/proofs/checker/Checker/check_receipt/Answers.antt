use Rattle.std.proofs.Common.{subst}
use Rattle.tau_rules.specs.declared.errors.DeliverError.{DeliverError}
use Rattle.tau_rules.specs.System.{Core}
use Rattle.tau_rules.specs.Answers.{IsUndelivered}
use Rattle.tau_check.proofs.Endings.{is_made, not_made}
use Rattle.tau_trace.specs.Run.{len}
use Rattle.tau_check.proofs.Receipts.{taken_illegal, busy_illegal, receipt_illegal, receipt_goes_on}
use Rattle.tau_check.proofs.checker.Checker.check_receipt.Goals as goal

pub returns-in_ok-keep_begun-in-Ok : goal.returns-in_ok-keep_begun-in-Ok
returns-in_ok-keep_begun-in-Ok c =
    let old : Core = c.args.self.now.legal.system in
    let new : Core = c.deliver.new.self.system in
    receipt_goes_on old new c.args.message c.args.step.now c.in-Ok.delivered c.args.self.now.jobs.items c.keep_begun.new.jobs.items c.requires.asked c.requires.receipt c.requires.has_jobs
    c.in-Ok.ensures.ok c.has_made.ensures.well_formed c.has_made.ensures.legal
    (is_made new.run c.length-place.result (len old.run) c.args.step.now c.has_made.result c.length-place.ensures c.has_made.ensures.made c.if-not-has_made.false)
    c.in_ok-keep_begun-in-Ok.ensures

pub returns-then-not-has_made : goal.returns-then-not-has_made
returns-then-not-has_made c =
    let old : Core = c.args.self.now.legal.system in
    let new : Core = c.deliver.new.self.system in
    receipt_illegal old new c.args.message c.args.step.now c.in-Ok.delivered c.requires.asked c.requires.receipt c.in-Ok.ensures.ok c.has_made.ensures.well_formed c.has_made.ensures.legal
    (not_made new.run c.length-place.result (len old.run) c.args.step.now c.has_made.result c.length-place.ensures c.has_made.ensures.made c.if-not-has_made.true)

pub returns-in-Err-NotInFlight : goal.returns-in-Err-NotInFlight
returns-in-Err-NotInFlight c =
    let old : Core = c.args.self.now.legal.system in
    let h = subst (λ (e : DeliverError). IsUndelivered old.run c.args.message e) c.in-Err-NotInFlight.field-0-is c.in-Err-NotInFlight.ensures.err in
    taken_illegal old.program old.run c.args.message c.args.step.now c.requires.asked c.requires.receipt c.in-Err-NotInFlight.field-0-0 h

pub returns-in-Err-Busy : goal.returns-in-Err-Busy
returns-in-Err-Busy c =
    let old : Core = c.args.self.now.legal.system in
    let h = subst (λ (e : DeliverError). IsUndelivered old.run c.args.message e) c.in-Err-Busy.field-0-is c.in-Err-Busy.ensures.err in
    busy_illegal old.program old.run c.args.message c.args.step.now c.requires.asked c.requires.receipt h.0 c.in-Err-Busy.field-0-0 h.1 h.2
