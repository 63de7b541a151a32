use Rattle.tau_book.proofs.OneRun.{one_serial_run}
use Rattle.tau_book.proofs.laws.serial_run_is_unique.Goals as goal

pub returns : goal.returns
returns c = one_serial_run
