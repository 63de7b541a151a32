use Rattle.tau_output.proofs.OutputLemmas.{made_text, no_memory}
use Rattle.tau_output.proofs.reporting.report_run.Goals as goal

pub returns-clause-output : goal.returns-clause-output
returns-clause-output c =
    let input = c.in_ok-input.input in
    made_text _ (λ o. o.text) c.report.result c.done.result (λ o is_text end. (record { program = input.program; run = input.trace.run; read = c.in_ok-input.ensures.text; is_text = is_text }, end)) c.report.ensures c.done.ensures.text

pub returns-clause-fault : goal.returns-clause-fault
returns-clause-fault c = no_memory _ c.done.result c.done.ensures.err
