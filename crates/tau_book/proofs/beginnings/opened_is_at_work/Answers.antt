use Rattle.tau_book.proofs.FirstJobs.{opened_at_work}
use Rattle.tau_book.proofs.beginnings.opened_is_at_work.Goals as goal

pub returns : goal.returns
returns c = opened_at_work
