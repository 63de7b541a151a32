use Rattle.std.proofs.Common.{◌∙◌, true≢false, false, sym, subst, ap}
use Rattle.tau_book.specs.Tolds.{IsGivenBack}
use Rattle.tau_seat.specs.Seated.{seated, Watches, IsTurn}
use Rattle.tau_seat.proofs.SeatTurns.{taken_as, seat_grows, seat_turn, grows_begin}
use Rattle.tau_seat.proofs.seat_book.SeatBook.give_back.Goals as goal

pub returns-clause-step : goal.returns-clause-step
returns-clause-step g c =
    let after = seated c.put_back.new.seat.table_id c.seat.inside.key c.put_back.new.seat.me.0 in
    subst (λ s. Watches s after) c.seat.view_is
    (seat_grows c.seat.inside.pass.table_id c.put_back.new.seat.table_id c.seat.inside.key c.seat.inside.pass.me c.deref_mut-book.result.now c.give_back.new.self c.take-boxed.new.seat.me c.put_back.new.seat.me false c.seat.invariant (taken_as c.seat.inside.pass.me c.take-boxed.new.seat.me c.deref_mut-book.result.now c.take-boxed.result (c.deref_mut-book.ensures.value ∙ c.boxed.view_is) c.take-boxed.ensures.taken)
    (λ e. absurd (true≢false (sym e))) (λ e. c.put_back.ensures.stayed e))

pub returns-clause-prefix : goal.returns-clause-prefix
returns-clause-prefix g c = grows_begin false c.args.seat.now (seated c.put_back.new.seat.table_id c.seat.inside.key c.put_back.new.seat.me.0) (returns-clause-step g c)

pub returns-clause-given : goal.returns-clause-given
returns-clause-given g c =
    let after = seated c.put_back.new.seat.table_id c.seat.inside.key c.put_back.new.seat.me.0 in
    let is = c.give_back.ensures.given in
    subst (λ s. IsTurn s after (λ x y. IsGivenBack x y c.args.hand.now c.give_back.new.hand)) c.seat.view_is
    (seat_turn c.seat.inside.pass.table_id c.put_back.new.seat.table_id c.seat.inside.key c.seat.inside.pass.me c.deref_mut-book.result.now c.give_back.new.self c.take-boxed.new.seat.me c.put_back.new.seat.me false
    (λ x y. IsGivenBack x y c.args.hand.now c.give_back.new.hand) c.seat.invariant (taken_as c.seat.inside.pass.me c.take-boxed.new.seat.me c.deref_mut-book.result.now c.take-boxed.result (c.deref_mut-book.ensures.value ∙ c.boxed.view_is) c.take-boxed.ensures.taken) c.system-before.ensures.book c.system-after.ensures.book (ap (λ x. x.system) is.book_is, ap (λ x. x.limit) is.book_is)
    (λ e. absurd (true≢false (sym e))) (λ e. c.put_back.ensures.stayed e) is)
