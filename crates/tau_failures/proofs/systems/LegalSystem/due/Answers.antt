use Rattle.std.proofs.Common.{inl, subst}
use Rattle.tau_trace.specs.Run.{len}
use Rattle.tau_script.specs.Scripts.{IsDue}
use Rattle.tau_failures.specs.Dues.{due_step}
use Rattle.tau_failures.specs.LegalRun.{LegalRun}
use Rattle.tau_failures.proofs.systems.LegalSystem.due.Goals as goal

pub returns : goal.returns
returns g c =
    subst (λ (r : LegalRun). IsDue r.system.program.script r.system.run (len r.system.run) (due_step c.due_by.result)) c.self.view_is
    (record { cursor = c.due_by.new.cursor; stands = c.due_by.ensures.current (inl c.self.invariant.cursor_is); due = c.due_by.ensures.due })
