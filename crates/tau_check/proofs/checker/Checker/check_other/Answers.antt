use Rattle.std.proofs.Common.{sym}
use Rattle.tau_trace.specs.Run.{len}
use Rattle.tau_rules.specs.System.{Core}
use Rattle.tau_check.proofs.Endings.{receipt_known, failure, failure_illegal}
use Rattle.tau_check.proofs.checker.Checker.check_other.Goals as goal

pub check_receipt-requires-clause-exists : goal.check_receipt-requires-clause-exists
check_receipt-requires-clause-exists c =
    let old : Core = c.args.self.now.legal.system in
    receipt_known old.run (len old.run) c.in-Some.message c.args.step.now (sym c.in-Some.ensures) c.requires.follows.known

pub returns-in-None : goal.returns-in-None
returns-in-None c =
    let old : Core = c.args.self.now.legal.system in
    failure_illegal old.program old.run c.args.step.now c.requires.asked (failure c.args.step.now (sym c.in_default.ensures) (sym c.in-None.ensures))
