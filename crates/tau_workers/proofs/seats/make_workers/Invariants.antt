use Rattle.std.proofs.Common.{◌≡◌, ◌+◌, map, length, All}
use Rattle.tau_workers.specs.Inner.Hands.{opening_hands}
use Rattle.tau_workers.specs.Inner.Seats.{IsSeatOf, HasOne}
use Rattle.tau_workers.proofs.seats.make_workers.Given as goal

abbrev pub invariant-loop-number : goal.invariant-loop-number
invariant-loop-number l = record {
  hands : map (λ w. w.hand) l.workers.items ≡ opening_hands l.fn.settings.seed l.fn.settings.jobs l.number;
  many : length l.workers.items ≡ l.number;
  ones : All (λ w. HasOne l.fn.table w.place) l.workers.items;
  seat : IsSeatOf l.fn.table l.rest;
  left : length l.rest.numbers + l.number ≡ l.fn.settings.workers;
}
