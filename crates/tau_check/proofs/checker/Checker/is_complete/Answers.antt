use Rattle.std.proofs.Common.{◌↔◌, IsTrue, subst}
use Rattle.tau_trace.specs.Run.{Run}
use Rattle.tau_failures.specs.LegalRun.{NothingLeft}
use Rattle.tau_check.proofs.checker.Checker.is_complete.Goals as goal

pub is_complete-requires : goal.is_complete-requires
is_complete-requires c = subst (λ (T : Run). IsTrue c.nothing_left-nothing_left.result ↔ NothingLeft T) c.trace.ensures.run c.nothing_left-nothing_left.ensures
