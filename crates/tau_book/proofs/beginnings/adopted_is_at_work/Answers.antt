use Rattle.tau_book.proofs.FirstJobs.{adopted_at_work}
use Rattle.tau_book.proofs.beginnings.adopted_is_at_work.Goals as goal

pub returns : goal.returns
returns c = adopted_at_work
