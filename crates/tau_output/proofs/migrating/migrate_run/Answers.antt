use Rattle.tau_output.proofs.OutputLemmas.{made_output, no_memory}
use Rattle.tau_output.proofs.migrating.migrate_run.Goals as goal

pub returns-clause-output : goal.returns-clause-output
returns-clause-output c =
    let input = c.in_ok-program.field-0 in
    made_output c.migrated.result c.or_no_memory.result (λ o migrated. record { program = input.program; run = input.trace.run; read = c.in_ok-program.ensures.text; migrated = migrated }) c.migrated.ensures c.or_no_memory.ensures.output

pub returns-clause-fault : goal.returns-clause-fault
returns-clause-fault c = no_memory _ c.or_no_memory.result c.or_no_memory.ensures.err
