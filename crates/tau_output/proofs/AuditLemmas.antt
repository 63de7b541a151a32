-- What `audit` writes for a run.
use Rattle.std.proofs.Common.{◌≡◌, ◌↔◌, refl}
use Rattle.tau_trace.specs.Run.{Run}
use Rattle.tau_past.specs.Safety.{Safe}
use Rattle.tau_past.specs.Audits.{IsAudit}
use Rattle.tau_past.specs.declared.findings.Audit.{Audit}
use Rattle.tau_past.specs.declared.findings.Audit.TheVariants as audits
use Rattle.tau_output.specs.Audits.{IsAudited}
use Rattle.tau_output.specs.Inner.Ends.{end_of_audit, line_of_audit}

pub is_audited : (T : Run) (found : Audit) → IsAudit T found → ((found ≡ audits.Safe) ↔ Safe T) → IsAudited T (end_of_audit found) (line_of_audit T.opening.names found)
is_audited T audits.Safe h safe = (h, refl)
is_audited T (audits.Broken checkpoint point fall) h safe = ((λ s. let no = safe.1 s in absurd (cc)), h, refl)
