use Rattle.std.proofs.Common.{◌<◌, ℕ}
use Rattle.tau_book.proofs.JobLists.{IsPlaceOfNumber}
use Rattle.tau_book.proofs.jobs.place_of_number.Given as goal

abbrev pub invariant-loop-k : goal.invariant-loop-k
invariant-loop-k l = (j : ℕ) → j < l.k → ¬ IsPlaceOfNumber l.jobs l.number j
