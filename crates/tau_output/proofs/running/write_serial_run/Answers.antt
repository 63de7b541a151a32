use Rattle.tau_output.proofs.OutputLemmas.{made_output, no_memory}
use Rattle.tau_output.proofs.running.write_serial_run.Goals as goal

pub returns-clause-output : goal.returns-clause-output
returns-clause-output c =
    made_output c.write_serial.result c.or_no_memory.result (λ o runs. runs c.args.bytes.now c.in_ok-program.ensures.program) c.write_serial.ensures c.or_no_memory.ensures.output

pub returns-clause-fault : goal.returns-clause-fault
returns-clause-fault c = no_memory _ c.or_no_memory.result c.or_no_memory.ensures.err
