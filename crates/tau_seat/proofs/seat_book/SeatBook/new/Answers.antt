use Rattle.std.proofs.Common.{rules, refl, sym, subst, ap, ◌∙◌, ◌≤◌}
use Rattle.tau_seat.specs.Keys.{key_of}
use Rattle.tau_seat.proofs.SeatTurns.{first_seat}
use Rattle.tau_seat.proofs.seat_book.SeatBook.new.Goals as goal

pub invariant_of-result : goal.invariant_of-result
invariant_of-result g c =
    first_seat _ _ c.args.book _ c.in-Ok-new.ensures.ok.1 (c.in-Ok-new.ensures.key.1 ∙ ap key_of c.in-Ok.ensures.ok ∙ sym c.of-key.ensures) (subst (λ n. 1 ≤ n) (sym c.in-Ok-new.ensures.key.0) c.requires.some) (sym c.of-key.ensures) c.system-system.ensures.book c.requires.empty
