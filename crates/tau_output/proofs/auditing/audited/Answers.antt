use Rattle.std.proofs.Common.{ap}
use Rattle.tau_trace.specs.declared.opening.Opening.{Opening}
use Rattle.tau_output.proofs.AuditLemmas.{is_audited}
use Rattle.tau_output.proofs.auditing.audited.Goals as goal

pub returns : goal.returns
returns c =
    let names = ap (λ (o : Opening). o.names) c.opening.ensures.value in
    rw (c.end_of.ensures, c.in_ok-line_of.ensures, names) (is_audited c.args.trace.now.run c.in_ok-found.found c.in_ok-found.ensures.found c.in_ok-found.ensures.safe)
