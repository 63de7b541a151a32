use Rattle.tau_book.proofs.FirstJobs.{opened_all_jobs}
use Rattle.tau_book.proofs.beginnings.opened_has_all_jobs.Goals as goal

pub returns : goal.returns
returns c = opened_all_jobs
