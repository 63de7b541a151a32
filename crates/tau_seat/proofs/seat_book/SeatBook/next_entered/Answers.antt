use Rattle.std.proofs.Common.{◌≡◌, [], rules, sym, ap, subst, ◌∙◌}
use Rattle.std.specs.Prelude.{IsTrue}
use Rattle.tau_book.specs.Nexts.{IsNext}
use Rattle.tau_seat.specs.Answers.{has_stepped}
use Rattle.tau_seat.specs.Seated.{seated, Grows, IsTurn, EndsWith}
use Rattle.tau_seat.proofs.BookTurns.{next_made}
use Rattle.tau_seat.proofs.SeatTurns.{taken_as, seat_grows, seat_turn, each_ok, grows_begin, put_value, put_grew, seat_keeps, turn_ends}
use Rattle.tau_seat.proofs.Knowing.{IsNextTurn, next_known}
use Rattle.tau_seat.proofs.seat_book.SeatBook.next_entered.Goals as goal

pub returns-clause-step : goal.returns-clause-step
returns-clause-step g c =
    let r = has_stepped c.next-answer.result in
    let after = seated c.put_back.new.seat.table_id c.seat.inside.key c.put_back.new.seat.me.0 in
    subst (λ s. Grows r s after) c.seat.view_is
    (seat_grows c.seat.inside.pass.table_id c.put_back.new.seat.table_id c.seat.inside.key c.seat.inside.pass.me c.deref_mut-book.result.now c.next-answer.new.self c.take-boxed.new.seat.me c.put_back.new.seat.me r c.seat.invariant (taken_as c.seat.inside.pass.me c.take-boxed.new.seat.me c.deref_mut-book.result.now c.take-boxed.result (c.deref_mut-book.ensures.value ∙ c.boxed.view_is) c.take-boxed.ensures.taken)
    (λ e. c.put_back.ensures.grew (c.has_stepped-grew.ensures ∙ e)) (λ e. c.put_back.ensures.stayed (c.has_stepped-grew.ensures ∙ e)))

pub returns-clause-answer : goal.returns-clause-answer
returns-clause-answer g c =
    let r = has_stepped c.next-answer.result in
    let after = seated c.put_back.new.seat.table_id c.seat.inside.key c.put_back.new.seat.me.0 in
    let made = next_made c.deref_mut-book.result.now c.next-answer.new.self c.args.hand.now c.next-answer.new.hand c.next-answer.result c.next-answer.ensures.ok c.next-answer.ensures.book_on_err in
    each_ok c.next-answer.result (IsNext c.deref_mut-book.result.now c.next-answer.new.self c.args.hand.now c.next-answer.new.hand) _
    (λ a is. subst (λ s. IsTurn s after (λ x y. IsNext x y c.args.hand.now c.next-answer.new.hand a)) c.seat.view_is
    (seat_turn c.seat.inside.pass.table_id c.put_back.new.seat.table_id c.seat.inside.key c.seat.inside.pass.me c.deref_mut-book.result.now c.next-answer.new.self c.take-boxed.new.seat.me c.put_back.new.seat.me r
    (λ x y. IsNext x y c.args.hand.now c.next-answer.new.hand a) c.seat.invariant (taken_as c.seat.inside.pass.me c.take-boxed.new.seat.me c.deref_mut-book.result.now c.take-boxed.result (c.deref_mut-book.ensures.value ∙ c.boxed.view_is) c.take-boxed.ensures.taken) c.next-answer.ensures.was_book c.next-answer.ensures.is_book made
    (λ e. c.put_back.ensures.grew (c.has_stepped-grew.ensures ∙ e)) (λ e. c.put_back.ensures.stayed (c.has_stepped-grew.ensures ∙ e)) is)) c.next-answer.ensures.ok

pub returns-clause-prefix : goal.returns-clause-prefix
returns-clause-prefix g c = grows_begin (has_stepped c.next-answer.result) c.args.seat.now (seated c.put_back.new.seat.table_id c.seat.inside.key c.put_back.new.seat.me.0) (returns-clause-step g c)

pub put_back-requires-clause-value : goal.put_back-requires-clause-value
put_back-requires-clause-value g c =
    let made = next_made c.deref_mut-book.result.now c.next-answer.new.self c.args.hand.now c.next-answer.new.hand c.next-answer.result c.next-answer.ensures.ok c.next-answer.ensures.book_on_err in
    put_value c.seat.inside.pass.table_id c.take-boxed.new.seat.table_id c.seat.inside.key c.seat.inside.pass.me c.deref_mut-book.result.now c.next-answer.new.self c.take-boxed.new.seat.me c.take-boxed.new.seat.me (has_stepped c.next-answer.result) (taken_as c.seat.inside.pass.me c.take-boxed.new.seat.me c.deref_mut-book.result.now c.take-boxed.result (c.deref_mut-book.ensures.value ∙ c.boxed.view_is) c.take-boxed.ensures.taken) c.next-answer.ensures.is_book made

pub put_back-requires-clause-grew : goal.put_back-requires-clause-grew
put_back-requires-clause-grew g c =
    let made = next_made c.deref_mut-book.result.now c.next-answer.new.self c.args.hand.now c.next-answer.new.hand c.next-answer.result c.next-answer.ensures.ok c.next-answer.ensures.book_on_err in
    λ e. put_grew c.seat.inside.pass.table_id c.take-boxed.new.seat.table_id c.seat.inside.key c.seat.inside.pass.me c.deref_mut-book.result.now c.next-answer.new.self c.take-boxed.new.seat.me c.take-boxed.new.seat.me (has_stepped c.next-answer.result) (taken_as c.seat.inside.pass.me c.take-boxed.new.seat.me c.deref_mut-book.result.now c.take-boxed.result (c.deref_mut-book.ensures.value ∙ c.boxed.view_is) c.take-boxed.ensures.taken) made (sym c.has_stepped-grew.ensures ∙ e)

pub invariant_of-seat : goal.invariant_of-seat
invariant_of-seat g c =
    let made = next_made c.deref_mut-book.result.now c.next-answer.new.self c.args.hand.now c.next-answer.new.hand c.next-answer.result c.next-answer.ensures.ok c.next-answer.ensures.book_on_err in
    seat_keeps c.seat.inside.pass.table_id c.put_back.new.seat.table_id c.seat.inside.key c.seat.inside.pass.me c.deref_mut-book.result.now c.next-answer.new.self c.take-boxed.new.seat.me c.put_back.new.seat.me (has_stepped c.next-answer.result) c.seat.invariant (taken_as c.seat.inside.pass.me c.take-boxed.new.seat.me c.deref_mut-book.result.now c.take-boxed.result (c.deref_mut-book.ensures.value ∙ c.boxed.view_is) c.take-boxed.ensures.taken) c.next-answer.ensures.is_book made
    (λ e. c.put_back.ensures.grew (c.has_stepped-grew.ensures ∙ e)) (λ e. c.put_back.ensures.stayed (c.has_stepped-grew.ensures ∙ e))

pub returns-clause-sound : goal.returns-clause-sound
returns-clause-sound g c =
    let made = next_made c.deref_mut-book.result.now c.next-answer.new.self c.args.hand.now c.next-answer.new.hand c.next-answer.result c.next-answer.ensures.ok c.next-answer.ensures.book_on_err in
    let keeps = seat_keeps c.seat.inside.pass.table_id c.put_back.new.seat.table_id c.seat.inside.key c.seat.inside.pass.me c.deref_mut-book.result.now c.next-answer.new.self c.take-boxed.new.seat.me c.put_back.new.seat.me (has_stepped c.next-answer.result) c.seat.invariant (taken_as c.seat.inside.pass.me c.take-boxed.new.seat.me c.deref_mut-book.result.now c.take-boxed.result (c.deref_mut-book.ensures.value ∙ c.boxed.view_is) c.take-boxed.ensures.taken) c.next-answer.ensures.is_book made
    (λ e. c.put_back.ensures.grew (c.has_stepped-grew.ensures ∙ e)) (λ e. c.put_back.ensures.stayed (c.has_stepped-grew.ensures ∙ e)) in
    keeps.sound

pub returns-clause-end : goal.returns-clause-end
returns-clause-end g c =
    let after = seated c.put_back.new.seat.table_id c.seat.inside.key c.put_back.new.seat.me.0 in
    each_ok c.next-answer.result (λ a. IsTurn c.args.seat.now after (λ x y. IsNext x y c.args.hand.now c.next-answer.new.hand a)) (EndsWith after)
    (λ a t. turn_ends c.args.hand.now c.next-answer.new.hand c.args.seat.now after a (ap (λ s. s.program) c.seat.view_is) (ap (λ s. s.limit) c.seat.view_is) t) (returns-clause-answer g c)

pub returns-clause-known : goal.returns-clause-known
returns-clause-known g c =
    let knows = IsTrue c.knows_still.result in
    let h = c.args.hand.now in
    let k = c.next-answer.new.hand in
    let r = has_stepped c.next-answer.result in
    let after = seated c.put_back.new.seat.table_id c.seat.inside.key c.put_back.new.seat.me.0 in
    let made = next_made c.deref_mut-book.result.now c.next-answer.new.self h k c.next-answer.result c.next-answer.ensures.ok c.next-answer.ensures.book_on_err in
    let turn = each_ok c.next-answer.result (IsNext c.deref_mut-book.result.now c.next-answer.new.self h k) (IsNextTurn knows c.args.seat.now after h k)
    (λ a is. subst (λ s. IsNextTurn knows s after h k a) c.seat.view_is
    (seat_turn c.seat.inside.pass.table_id c.put_back.new.seat.table_id c.seat.inside.key c.seat.inside.pass.me c.deref_mut-book.result.now c.next-answer.new.self c.take-boxed.new.seat.me c.put_back.new.seat.me r
    (λ x y. IsNext x y h k a × (knows → x.store ≡ [])) c.seat.invariant (taken_as c.seat.inside.pass.me c.take-boxed.new.seat.me c.deref_mut-book.result.now c.take-boxed.result (c.deref_mut-book.ensures.value ∙ c.boxed.view_is) c.take-boxed.ensures.taken) c.next-answer.ensures.was_book c.next-answer.ensures.is_book made
    (λ e. c.put_back.ensures.grew (c.has_stepped-grew.ensures ∙ e)) (λ e. c.put_back.ensures.stayed (c.has_stepped-grew.ensures ∙ e)) (is, c.knows_still.ensures.none_back))) c.next-answer.ensures.ok in
    λ e all.
    (next_known c.known_jobs_are_handed_on.ensures.next c.args.seat.now after h k knows (ap (λ s. s.program) c.seat.view_is) c.next-answer.result (returns-clause-prefix g c) turn c.next-answer.ensures.hand_on_err e all).0

pub returns-clause-work : goal.returns-clause-work
returns-clause-work g c =
    let knows = IsTrue c.knows_still.result in
    let h = c.args.hand.now in
    let k = c.next-answer.new.hand in
    let r = has_stepped c.next-answer.result in
    let after = seated c.put_back.new.seat.table_id c.seat.inside.key c.put_back.new.seat.me.0 in
    let made = next_made c.deref_mut-book.result.now c.next-answer.new.self h k c.next-answer.result c.next-answer.ensures.ok c.next-answer.ensures.book_on_err in
    let turn = each_ok c.next-answer.result (IsNext c.deref_mut-book.result.now c.next-answer.new.self h k) (IsNextTurn knows c.args.seat.now after h k)
    (λ a is. subst (λ s. IsNextTurn knows s after h k a) c.seat.view_is
    (seat_turn c.seat.inside.pass.table_id c.put_back.new.seat.table_id c.seat.inside.key c.seat.inside.pass.me c.deref_mut-book.result.now c.next-answer.new.self c.take-boxed.new.seat.me c.put_back.new.seat.me r
    (λ x y. IsNext x y h k a × (knows → x.store ≡ [])) c.seat.invariant (taken_as c.seat.inside.pass.me c.take-boxed.new.seat.me c.deref_mut-book.result.now c.take-boxed.result (c.deref_mut-book.ensures.value ∙ c.boxed.view_is) c.take-boxed.ensures.taken) c.next-answer.ensures.was_book c.next-answer.ensures.is_book made
    (λ e. c.put_back.ensures.grew (c.has_stepped-grew.ensures ∙ e)) (λ e. c.put_back.ensures.stayed (c.has_stepped-grew.ensures ∙ e)) (is, c.knows_still.ensures.none_back))) c.next-answer.ensures.ok in
    λ e all.
    (next_known c.known_jobs_are_handed_on.ensures.next c.args.seat.now after h k knows (ap (λ s. s.program) c.seat.view_is) c.next-answer.result (returns-clause-prefix g c) turn c.next-answer.ensures.hand_on_err e all).1
