use Rattle.tau_book.specs.Inner.Jobs.{IsEarliestFrom}
use Rattle.std.proofs.Common.{◌≤◌, length}
use Rattle.tau_book.proofs.jobs.place_of_earliest.Given as goal

abbrev pub invariant-jobs : goal.invariant-jobs
invariant-jobs l = record {
  within : l.from ≤ length l.jobs;
  best : IsEarliestFrom l.jobs l.from l.best;
}

abbrev pub decreases-jobs : goal.decreases-jobs
decreases-jobs l = l.from
