use Rattle.std.proofs.Common.{◌≡◌, ◌+◌, length, All, vec_len}
use Rattle.tau_workers.specs.Inner.Seats.{IsSeatOf, HasOne}
use Rattle.tau_workers.proofs.seats.join_all.Given as goal

abbrev pub invariant-loop-worker : goal.invariant-loop-worker
invariant-loop-worker l = record {
  ones : All (λ w. HasOne l.fn.table w.place) l.workers.items;
  seat : IsSeatOf l.fn.table l.seat;
  numbers : length l.seat.numbers + length l.workers.items ≡ length l.fn.workers.items;
}

abbrev pub decreases-loop-worker : goal.decreases-loop-worker
decreases-loop-worker l = vec_len l.workers
