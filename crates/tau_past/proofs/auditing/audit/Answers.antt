use Rattle.std.proofs.Common.{subst, Option, None}
use Rattle.tau_trace.specs.Run.{Run}
use Rattle.tau_past.specs.declared.findings.Breach.{Breach}
use Rattle.tau_past.specs.declared.findings.Audit.TheVariants as audits
use Rattle.tau_past.specs.Audits.{IsFirstBreach}
use Rattle.tau_past.proofs.Breaches.{safe_from_none, safe_iff}
use Rattle.tau_past.proofs.auditing.audit.Goals as goal

pub returns-clause-found : goal.returns-clause-found
returns-clause-found c =
    let T = c.args.trace.now.run in
    safe_from_none T (subst (λ (R : Run). IsFirstBreach R None) c.in_ok-index.ensures (subst (λ (o : Option Breach). IsFirstBreach c.in_ok-index.index o) c.in-None.is c.in_ok-breach.ensures))

pub returns-clause-safe : goal.returns-clause-safe
returns-clause-safe c =
    let T = c.args.trace.now.run in
    safe_iff T audits.Safe (safe_from_none T (subst (λ (R : Run). IsFirstBreach R None) c.in_ok-index.ensures (subst (λ (o : Option Breach). IsFirstBreach c.in_ok-index.index o) c.in-None.is c.in_ok-breach.ensures)))
