use Rattle.std.proofs.Common.{rules}
use Rattle.tau_seat.proofs.SeatTurns.{join_keeps}
use Rattle.tau_seat.proofs.seat_book.SeatBook.join.Goals as goal

pub invariant_of-into : goal.invariant_of-into
invariant_of-into g c = join_keeps _ c.into.inside.pass.me c.from.inside.pass.me _ c.into.invariant c.join.ensures.both c.join.ensures.sound
