use Rattle.tau_run_journal.proofs.Runs.{run_of}
use Rattle.tau_run_journal.proofs.laws.records_stand_for_runs.Goals as goal

pub returns : goal.returns
returns c = λ rs P T stand. run_of rs P T stand
