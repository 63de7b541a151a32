use Rattle.std.proofs.Common.{◌∙◌, All, sym, subst}
use Rattle.tau_eval.specs.Turn.{TurnSoFar}
use Rattle.tau_book.specs.Places.{IsVouched}
use Rattle.tau_book.specs.Lefts.{IsLeftOf}
use Rattle.tau_seat.specs.Seated.{Grows}
use Rattle.tau_seat.specs.Answers.{has_stepped}
use Rattle.tau_seat.specs.SeatPlaces.{Placed, HasEnded, IsSeenOver, Vouches}
use Rattle.tau_seat.proofs.Places.{told_end, err_watches}
use Rattle.tau_seat.proofs.Overs.{on_err}
use Rattle.tau_seat.proofs.Knowing.{vouched_longer, vouched_jobs, vouched_answer}
use Rattle.tau_seat.proofs.place.SeatPlaceStepPlace.next.Goals as goal

pub invariant_of-self-2 : goal.invariant_of-self-2
invariant_of-self-2 g c =
    (c.in_ok-answer.ensures.stays.table_is ∙ c.self.invariant.0, subst (HasEnded c.ask.new.seat) (sym c.end_told-self-inside.ensures) (told_end c.ask.new.seat c.in_ok-answer.answer c.in_ok-answer.ensures.end))

pub returns-in_err-answer-clause-hand_on_err : goal.returns-in_err-answer-clause-hand_on_err
returns-in_err-answer-clause-hand_on_err g c =
    on_err c.from_residual.result
    (subst (λ (p : Placed). IsLeftOf (IsSeenOver p.seat c.ask.new.seat) c.args.hand.now c.ask.new.hand) c.self.view_is c.in_err-answer.ensures.hand_on_err)

pub returns-in_err-answer-clause-step : goal.returns-in_err-answer-clause-step
returns-in_err-answer-clause-step g c =
    subst (λ (p : Placed). Grows (has_stepped c.from_residual.result) p.seat c.ask.new.seat) c.self.view_is
    (err_watches c.from_residual.result c.self.inside.seat c.ask.new.seat c.from_residual.ensures.0 c.in_err-answer.ensures.step)

pub returns-clause-vouched : goal.returns-clause-vouched
returns-clause-vouched g c =
    let o : Placed = record { seat = c.self.inside.seat; is_complete = c.self.inside.is_complete; knows = c.self.inside.knows } in
    let n : Placed = record { seat = c.ask.new.seat; is_complete = c.end_told-self-inside.result; knows = c.ask.new.knows } in
    subst (λ (p : Placed). (job : TurnSoFar) → Vouches p job → Vouches n job) c.self.view_is (vouched_longer o n c.ask.ensures.knew c.ask.ensures.stays.program_is c.ask.ensures.prefix)

pub returns-clause-known : goal.returns-clause-known
returns-clause-known g c =
    let o : Placed = record { seat = c.self.inside.seat; is_complete = c.self.inside.is_complete; knows = c.self.inside.knows } in
    let n : Placed = record { seat = c.ask.new.seat; is_complete = c.end_told-self-inside.result; knows = c.ask.new.knows } in
    subst (λ (p : Placed). All (Vouches p) c.args.hand.now.jobs → All (Vouches n) c.ask.new.hand.jobs) c.self.view_is
    (vouched_jobs o n c.ask.ensures.knew c.args.hand.now.jobs c.ask.new.hand.jobs c.ask.ensures.known) c.requires.known

pub returns-in_err-answer-clause-vouched : goal.returns-in_err-answer-clause-vouched
returns-in_err-answer-clause-vouched g c =
    let o : Placed = record { seat = c.self.inside.seat; is_complete = c.self.inside.is_complete; knows = c.self.inside.knows } in
    let n : Placed = record { seat = c.ask.new.seat; is_complete = c.self.inside.is_complete; knows = c.ask.new.knows } in
    subst (λ (p : Placed). (job : TurnSoFar) → Vouches p job → Vouches n job) c.self.view_is (vouched_longer o n c.ask.ensures.knew c.ask.ensures.stays.program_is c.ask.ensures.prefix)

pub returns-in_err-answer-clause-known : goal.returns-in_err-answer-clause-known
returns-in_err-answer-clause-known g c =
    let o : Placed = record { seat = c.self.inside.seat; is_complete = c.self.inside.is_complete; knows = c.self.inside.knows } in
    let n : Placed = record { seat = c.ask.new.seat; is_complete = c.self.inside.is_complete; knows = c.ask.new.knows } in
    subst (λ (p : Placed). All (Vouches p) c.args.hand.now.jobs → All (Vouches n) c.ask.new.hand.jobs) c.self.view_is
    (vouched_jobs o n c.ask.ensures.knew c.args.hand.now.jobs c.ask.new.hand.jobs c.ask.ensures.known) c.requires.known

pub returns-clause-work : goal.returns-clause-work
returns-clause-work g c =
    let o : Placed = record { seat = c.self.inside.seat; is_complete = c.self.inside.is_complete; knows = c.self.inside.knows } in
    let n : Placed = record { seat = c.ask.new.seat; is_complete = c.end_told-self-inside.result; knows = c.ask.new.knows } in
    subst (λ (p : Placed). All (Vouches p) c.args.hand.now.jobs → IsVouched (Vouches n) c.in_ok-answer.answer) c.self.view_is
    (vouched_answer o n c.ask.ensures.knew c.args.hand.now.jobs c.in_ok-answer.answer c.in_ok-answer.ensures.work) c.requires.known
