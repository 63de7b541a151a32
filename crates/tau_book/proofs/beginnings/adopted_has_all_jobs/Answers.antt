use Rattle.tau_book.proofs.FirstJobs.{adopted_all_jobs}
use Rattle.tau_book.proofs.beginnings.adopted_has_all_jobs.Goals as goal

pub returns : goal.returns
returns c = adopted_all_jobs
