use Rattle.tau_run_journal.proofs.Answered.{if_ok_then}
use Rattle.tau_run_journal.proofs.Standings.{first_told}
use Rattle.tau_run_journal.proofs.reading.first_program.Goals as goal

pub returns : goal.returns
returns c = if_ok_then _ _ c.program_of_text.result (λ o told r first. first_told c.args.records.now c.in-Some.record.now o c.in-Some.ensures told r first) c.program_of_text.ensures
