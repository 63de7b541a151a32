use Rattle.tau_output.proofs.OutputLemmas.{made_output, no_memory}
use Rattle.tau_output.proofs.together.write_workers_run.Goals as goal

pub returns-clause-output : goal.returns-clause-output
returns-clause-output g c =
    made_output c.write_together.result c.or_no_memory.result (λ o runs. runs c.args.bytes.now c.in_ok-program.ensures.program) c.write_together.ensures c.or_no_memory.ensures.output

pub returns-clause-fault : goal.returns-clause-fault
returns-clause-fault g c = no_memory _ c.or_no_memory.result c.or_no_memory.ensures.err
