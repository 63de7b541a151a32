use Rattle.std.proofs.Common.{rules, sym, subst, ◌∙◌}
use Rattle.tau_book.specs.Tolds.{IsTold}
use Rattle.tau_seat.specs.Answers.{has_made}
use Rattle.tau_seat.specs.Seated.{Seated, seated, Grows, IsTurn}
use Rattle.tau_seat.specs.Knowing.{IsSeenOpen}
use Rattle.tau_seat.proofs.BookTurns.{told_made}
use Rattle.tau_seat.proofs.SeatTurns.{taken_as, seat_grows, seat_turn, each_ok, grows_begin, put_value, put_grew, seat_keeps, book_taken}
use Rattle.tau_seat.proofs.Knowing.{known_then}
use Rattle.tau_seat.proofs.seat_book.SeatBook.act.Goals as goal

pub returns-clause-step : goal.returns-clause-step
returns-clause-step g c =
    let r = has_made c.act-answer.result in
    let after = seated c.put_back.new.seat.table_id c.seat.inside.key c.put_back.new.seat.me.0 in
    subst (λ s. Grows r s after) c.seat.view_is
    (seat_grows c.seat.inside.pass.table_id c.put_back.new.seat.table_id c.seat.inside.key c.seat.inside.pass.me c.deref_mut-book.result.now c.act-answer.new.self c.take-boxed.new.seat.me c.put_back.new.seat.me r c.seat.invariant (taken_as c.seat.inside.pass.me c.take-boxed.new.seat.me c.deref_mut-book.result.now c.take-boxed.result (c.deref_mut-book.ensures.value ∙ c.boxed.view_is) c.take-boxed.ensures.taken)
    (λ e. c.put_back.ensures.grew (c.has_made-grew.ensures ∙ e)) (λ e. c.put_back.ensures.stayed (c.has_made-grew.ensures ∙ e)))

pub returns-clause-answer : goal.returns-clause-answer
returns-clause-answer g c =
    let r = has_made c.act-answer.result in
    let after = seated c.put_back.new.seat.table_id c.seat.inside.key c.put_back.new.seat.me.0 in
    let made = told_made c.deref_mut-book.result.now c.act-answer.new.self c.args.hand.now c.act-answer.new.hand c.args.pending c.act-answer.result c.act-answer.ensures.ok c.act-answer.ensures.book_on_err in
    each_ok c.act-answer.result (IsTold c.deref_mut-book.result.now c.act-answer.new.self c.args.hand.now c.act-answer.new.hand c.args.pending) _
    (λ a is. subst (λ s. IsTurn s after (λ x y. IsTold x y c.args.hand.now c.act-answer.new.hand c.args.pending a)) c.seat.view_is
    (seat_turn c.seat.inside.pass.table_id c.put_back.new.seat.table_id c.seat.inside.key c.seat.inside.pass.me c.deref_mut-book.result.now c.act-answer.new.self c.take-boxed.new.seat.me c.put_back.new.seat.me r
    (λ x y. IsTold x y c.args.hand.now c.act-answer.new.hand c.args.pending a) c.seat.invariant (taken_as c.seat.inside.pass.me c.take-boxed.new.seat.me c.deref_mut-book.result.now c.take-boxed.result (c.deref_mut-book.ensures.value ∙ c.boxed.view_is) c.take-boxed.ensures.taken) c.act-answer.ensures.was_book c.act-answer.ensures.is_book made
    (λ e. c.put_back.ensures.grew (c.has_made-grew.ensures ∙ e)) (λ e. c.put_back.ensures.stayed (c.has_made-grew.ensures ∙ e)) is)) c.act-answer.ensures.ok

pub returns-clause-prefix : goal.returns-clause-prefix
returns-clause-prefix g c = grows_begin (has_made c.act-answer.result) c.args.seat.now (seated c.put_back.new.seat.table_id c.seat.inside.key c.put_back.new.seat.me.0) (returns-clause-step g c)

pub put_back-requires-clause-value : goal.put_back-requires-clause-value
put_back-requires-clause-value g c =
    let made = told_made c.deref_mut-book.result.now c.act-answer.new.self c.args.hand.now c.act-answer.new.hand c.args.pending c.act-answer.result c.act-answer.ensures.ok c.act-answer.ensures.book_on_err in
    put_value c.seat.inside.pass.table_id c.take-boxed.new.seat.table_id c.seat.inside.key c.seat.inside.pass.me c.deref_mut-book.result.now c.act-answer.new.self c.take-boxed.new.seat.me c.take-boxed.new.seat.me (has_made c.act-answer.result) (taken_as c.seat.inside.pass.me c.take-boxed.new.seat.me c.deref_mut-book.result.now c.take-boxed.result (c.deref_mut-book.ensures.value ∙ c.boxed.view_is) c.take-boxed.ensures.taken) c.act-answer.ensures.is_book made

pub put_back-requires-clause-grew : goal.put_back-requires-clause-grew
put_back-requires-clause-grew g c =
    let made = told_made c.deref_mut-book.result.now c.act-answer.new.self c.args.hand.now c.act-answer.new.hand c.args.pending c.act-answer.result c.act-answer.ensures.ok c.act-answer.ensures.book_on_err in
    λ e. put_grew c.seat.inside.pass.table_id c.take-boxed.new.seat.table_id c.seat.inside.key c.seat.inside.pass.me c.deref_mut-book.result.now c.act-answer.new.self c.take-boxed.new.seat.me c.take-boxed.new.seat.me (has_made c.act-answer.result) (taken_as c.seat.inside.pass.me c.take-boxed.new.seat.me c.deref_mut-book.result.now c.take-boxed.result (c.deref_mut-book.ensures.value ∙ c.boxed.view_is) c.take-boxed.ensures.taken) made (sym c.has_made-grew.ensures ∙ e)

pub invariant_of-seat : goal.invariant_of-seat
invariant_of-seat g c =
    let made = told_made c.deref_mut-book.result.now c.act-answer.new.self c.args.hand.now c.act-answer.new.hand c.args.pending c.act-answer.result c.act-answer.ensures.ok c.act-answer.ensures.book_on_err in
    seat_keeps c.seat.inside.pass.table_id c.put_back.new.seat.table_id c.seat.inside.key c.seat.inside.pass.me c.deref_mut-book.result.now c.act-answer.new.self c.take-boxed.new.seat.me c.put_back.new.seat.me (has_made c.act-answer.result) c.seat.invariant (taken_as c.seat.inside.pass.me c.take-boxed.new.seat.me c.deref_mut-book.result.now c.take-boxed.result (c.deref_mut-book.ensures.value ∙ c.boxed.view_is) c.take-boxed.ensures.taken) c.act-answer.ensures.is_book made
    (λ e. c.put_back.ensures.grew (c.has_made-grew.ensures ∙ e)) (λ e. c.put_back.ensures.stayed (c.has_made-grew.ensures ∙ e))

pub returns-clause-sound : goal.returns-clause-sound
returns-clause-sound g c =
    let made = told_made c.deref_mut-book.result.now c.act-answer.new.self c.args.hand.now c.act-answer.new.hand c.args.pending c.act-answer.result c.act-answer.ensures.ok c.act-answer.ensures.book_on_err in
    let keeps = seat_keeps c.seat.inside.pass.table_id c.put_back.new.seat.table_id c.seat.inside.key c.seat.inside.pass.me c.deref_mut-book.result.now c.act-answer.new.self c.take-boxed.new.seat.me c.put_back.new.seat.me (has_made c.act-answer.result) c.seat.invariant (taken_as c.seat.inside.pass.me c.take-boxed.new.seat.me c.deref_mut-book.result.now c.take-boxed.result (c.deref_mut-book.ensures.value ∙ c.boxed.view_is) c.take-boxed.ensures.taken) c.act-answer.ensures.is_book made
    (λ e. c.put_back.ensures.grew (c.has_made-grew.ensures ∙ e)) (λ e. c.put_back.ensures.stayed (c.has_made-grew.ensures ∙ e)) in
    keeps.sound

pub act-answer-requires-clause-known : goal.act-answer-requires-clause-known
act-answer-requires-clause-known g c = λ was.
    let taken = (taken_as c.seat.inside.pass.me c.take-boxed.new.seat.me c.deref_mut-book.result.now c.take-boxed.result (c.deref_mut-book.ensures.value ∙ c.boxed.view_is) c.take-boxed.ensures.taken) in
    known_then (seated c.seat.inside.pass.table_id c.seat.inside.key c.seat.inside.pass.me.0) taken.3.0 c.deref_mut-book.result.now
    (book_taken c.seat.inside.pass.table_id c.seat.inside.key c.seat.inside.pass.me c.take-boxed.new.seat.me c.deref_mut-book.result.now c.seat.invariant taken c.system-system.ensures.book) c.args.pending
    (subst (λ (s : Seated). IsSeenOpen s c.args.pending) (sym c.seat.view_is) (c.requires.known was))
