use Rattle.std.proofs.Common.{◌≡◌, All}
use Rattle.std.specs.Prelude.{IsTrue}
use Rattle.tau_book.specs.Lefts.{IsLeftOf}
use Rattle.tau_seat.specs.Lists.{Begins}
use Rattle.tau_seat.specs.Seated.{Stays, Watches}
use Rattle.tau_seat.specs.Knowing.{IsSeenOpen}
use Rattle.tau_seat.specs.SeatPlaces.{IsSeenOver}
use Rattle.tau_seat.proofs.place.ask.Given as goal

abbrev pub invariant-loop : goal.invariant-loop
invariant-loop g l = record {
  can_next : (goal.iterator-loop g).can_next l.iterator';
  is_finite : (goal.iterator-loop g).is_finite l.iterator';
  stays : Stays l.fn.seat l.seat;
  prefix : Begins l.fn.seat.seen l.seat.seen;
  watches : Watches l.fn.seat l.seat;
  size : l.hand.size ≡ l.fn.hand.size;
  knew : IsTrue l.knows → IsTrue l.fn.knows;
  known : IsTrue l.knows → All (IsSeenOpen l.fn.seat) l.fn.hand.jobs → All (IsSeenOpen l.seat) l.hand.jobs;
  left : IsLeftOf (IsSeenOver l.fn.seat l.seat) l.fn.hand l.hand;
}
