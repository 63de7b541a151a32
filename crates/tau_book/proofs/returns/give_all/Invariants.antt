use Rattle.std.proofs.Common.{◌≡◌, vec_len, fold}
use Rattle.std.specs.Vec.{vec_capacity}
use Rattle.tau_book.specs.Books.{AreOfDifferentTurns}
use Rattle.tau_book.specs.Offers.{stored}
use Rattle.tau_book.specs.Inner.Returns.{AreOfTurns}
use Rattle.tau_book.proofs.returns.give_all.Given as goal

abbrev pub invariant-jobs : goal.invariant-jobs
invariant-jobs l = record {
  comes_to : fold stored l.store.items l.jobs.items ≡ fold stored l.initial.store.items l.initial.jobs.items;
  differ : AreOfDifferentTurns l.store.items;
  open_jobs : AreOfTurns l.turns l.store.items;
  given : AreOfTurns l.turns l.jobs.items;
  capacity : vec_capacity l.store ≡ vec_capacity l.initial.store;
  jobs_capacity : vec_capacity l.jobs ≡ vec_capacity l.initial.jobs;
}

abbrev pub decreases-jobs : goal.decreases-jobs
decreases-jobs l = vec_len l.jobs
