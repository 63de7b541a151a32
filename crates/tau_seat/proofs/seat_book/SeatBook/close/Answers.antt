use Rattle.std.proofs.Common.{◌≡◌, ℕ, ◌<◌, length, subst}
use Rattle.std.specs.Prelude.{slice_index_or}
use Rattle.tau_trace.specs.declared.step.Step.{Step}
use Rattle.tau_seat.specs.Lists.{upto}
use Rattle.tau_seat.specs.Seated.{Seated, Tabled, mine_of}
use Rattle.tau_seat.proofs.Sums.{all_below}
use Rattle.tau_seat.proofs.seat_book.SeatBook.close.Goals as goal

pub returns-clause-owners : goal.returns-clause-owners
returns-clause-owners g c =
    subst (λ (s : Seated). (k : ℕ) (d : Step × ℕ) → k < length s.seen → (slice_index_or s.seen k d).1 < c.args.self.count) c.seat.view_is
    (subst (λ (t : Tabled). (k : ℕ) (d : Step × ℕ) → k < length c.seat.inside.pass.me.0.seen → (slice_index_or c.seat.inside.pass.me.0.seen k d).1 < t.count) c.self.view_is
    (all_below c.self.inside.table.table.shared.key.count c.seat.inside.pass.me.0.seen c.close-boxed.ensures.owners))

pub returns-clause-mine : goal.returns-clause-mine
returns-clause-mine g c = subst (λ (s : Seated). mine_of s ≡ upto 0 (length s.seen)) c.seat.view_is c.close-boxed.ensures.places
