use Rattle.std.proofs.Common.{◌≡◌}
use Rattle.tau_book.specs.Lefts.{IsLeftOf}
use Rattle.tau_workers.proofs.locked.Desk.next.Given as goal

abbrev pub invariant-loop : goal.invariant-loop
invariant-loop g l = record {
  can_next : (goal.iterator-loop g).can_next l.iterator';
  is_finite : (goal.iterator-loop g).is_finite l.iterator';
  size : l.hand.size ≡ l.fn.hand.size;
  left : IsLeftOf (λ _. Unit {0}) l.fn.hand l.hand;
}
