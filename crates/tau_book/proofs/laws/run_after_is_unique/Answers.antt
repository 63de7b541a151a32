use Rattle.tau_book.proofs.OneRun.{one_run_after}
use Rattle.tau_book.proofs.laws.run_after_is_unique.Goals as goal

pub returns : goal.returns
returns c = one_run_after
