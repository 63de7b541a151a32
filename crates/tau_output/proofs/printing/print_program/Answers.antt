use Rattle.tau_output.proofs.OutputLemmas.{made_text, no_memory}
use Rattle.tau_output.proofs.printing.print_program.Goals as goal

pub returns-clause-output : goal.returns-clause-output
returns-clause-output c =
    made_text _ (λ o. o.text) c.program_text.result c.done.result (λ o is_text end. (record { program = c.in_ok-program.program; read = c.in_ok-program.ensures.program; is_text = is_text }, end)) c.program_text.ensures.text c.done.ensures.text

pub returns-clause-fault : goal.returns-clause-fault
returns-clause-fault c = no_memory _ c.done.result c.done.ensures.err
