use Rattle.std.proofs.Common.{false, refl, sym, ap, subst, ◌∙◌}
use Rattle.tau_book.specs.Lefts.{IsLeftOf}
use Rattle.tau_book.proofs.HandsLeft.{all_left, idle_left}
use Rattle.tau_seat.specs.Lists.{bare}
use Rattle.tau_seat.specs.Keys.{run_of}
use Rattle.tau_seat.specs.SeatPlaces.{IsSeenOver}
use Rattle.tau_seat.specs.Answers.{appends}
use Rattle.tau_seat.proofs.Places.{stays_itself, stays_longer, begins_itself, begins_longer, watches_itself, grows_longer, idle_watches, err_watches}
use Rattle.tau_seat.proofs.Overs.{over_now, seen_left, on_err}
use Rattle.tau_seat.proofs.place.ask.Goals as goal

pub loop-init : goal.loop-init
loop-init g c = record {
  can_next = tt;
  is_finite = tt;
  stays = stays_itself c.args.seat.now;
  prefix = begins_itself c.args.seat.now.seen;
  watches = watches_itself c.args.seat.now;
  size = refl;
  knew = λ e. e;
  known = λ e all. all;
  left = all_left (IsSeenOver c.args.seat.now c.args.seat.now) c.args.hand.now;
}

pub loop-preserved : goal.loop-preserved
loop-preserved g c =
    let turn = c.in_ok-answer.ensures.answer in
    let first = c.args.seat.now in
    let before = c.loop.seat in
    let after = c.next_entered.new.seat in
    let same = c.next_entered.ensures.stays in
    let seen = begins_longer first.seen before.seen after.seen c.loop.invariant.prefix c.next_entered.ensures.prefix in
    let run_is = turn.after_is.run_is ∙ ap (λ P. run_of P (bare after.seen)) (sym same.program_is) in
    record {
      can_next = tt;
      is_finite = tt;
      stays = stays_longer first before after c.loop.invariant.stays same;
      prefix = seen;
      watches = idle_watches first before after c.in_ok-answer.answer c.in-Idle.out c.loop.invariant.stays.numbers_are c.in-Idle.is c.loop.invariant.watches c.in_ok-answer.ensures.step;
      size = c.next_entered.ensures.size ∙ c.loop.invariant.size;
      knew = λ e. c.loop.invariant.knew (c.next_entered.ensures.knew e);
      known = λ e all. c.next_entered.ensures.known e (c.loop.invariant.known (c.next_entered.ensures.knew e) all);
      left =
          idle_left (IsSeenOver first after) turn.before turn.after c.args.hand.now c.loop.hand c.next_entered.new.hand c.in_ok-answer.answer c.in-Idle.out turn.called c.in-Idle.is (over_now first after turn.after.system.run run_is seen)
          (seen_left first before after c.args.hand.now c.loop.hand same.program_is c.next_entered.ensures.prefix c.loop.invariant.left);
    }

pub returns-in_err-answer-clause-hand_on_err : goal.returns-in_err-answer-clause-hand_on_err
returns-in_err-answer-clause-hand_on_err g c =
    let first = c.args.seat.now in
    let before = c.loop.seat in
    let after = c.next_entered.new.seat in
    on_err c.from_residual.result
    (subst (IsLeftOf (IsSeenOver first after) c.args.hand.now) (sym c.in_err-answer.ensures.hand_on_err)
    (seen_left first before after c.args.hand.now c.loop.hand c.next_entered.ensures.stays.program_is c.next_entered.ensures.prefix c.loop.invariant.left))

pub returns-in_default-clause-step : goal.returns-in_default-clause-step
returns-in_default-clause-step g c =
    grows_longer (appends c.in_ok-answer.answer) c.args.seat.now c.loop.seat c.next_entered.new.seat c.loop.invariant.stays.numbers_are c.loop.invariant.watches c.in_ok-answer.ensures.step

pub returns-in_err-answer-clause-step : goal.returns-in_err-answer-clause-step
returns-in_err-answer-clause-step g c =
    err_watches c.from_residual.result c.args.seat.now c.next_entered.new.seat c.from_residual.ensures.0
    (grows_longer false c.args.seat.now c.loop.seat c.next_entered.new.seat c.loop.invariant.stays.numbers_are c.loop.invariant.watches c.in_err-answer.ensures.step)

pub returns-in_default-clause-knew : goal.returns-in_default-clause-knew
returns-in_default-clause-knew g c = λ e. c.loop.invariant.knew (c.next_entered.ensures.knew e)

pub returns-in_default-clause-known : goal.returns-in_default-clause-known
returns-in_default-clause-known g c = λ e all. c.next_entered.ensures.known e (c.loop.invariant.known (c.next_entered.ensures.knew e) all)

pub returns-in_err-answer-clause-knew : goal.returns-in_err-answer-clause-knew
returns-in_err-answer-clause-knew g c = λ e. c.loop.invariant.knew (c.next_entered.ensures.knew e)

pub returns-in_err-answer-clause-known : goal.returns-in_err-answer-clause-known
returns-in_err-answer-clause-known g c = λ e all. c.next_entered.ensures.known e (c.loop.invariant.known (c.next_entered.ensures.knew e) all)

pub returns-in_default-clause-work : goal.returns-in_default-clause-work
returns-in_default-clause-work g c = λ e all. c.in_ok-answer.ensures.work e (c.loop.invariant.known (c.next_entered.ensures.knew e) all)
