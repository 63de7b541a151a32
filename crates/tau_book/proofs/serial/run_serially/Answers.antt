use Rattle.std.proofs.Common.{◌≡◌, ◌∙◌, ◌≤◌, [], arith, sym, ap, subst}
use Rattle.tau_trace.specs.Run.{Run, len}
use Rattle.tau_script.specs.Openings.{program_opening}
use Rattle.tau_legal.specs.Traces.{Legal, Complete}
use Rattle.tau_book.specs.Books.{Booked}
use Rattle.tau_book.specs.SerialRun.{IsSerialRun}
use Rattle.tau_book.specs.Working.{IsAtWork}
use Rattle.tau_book.specs.Alone.{IsRunAfter}
use Rattle.tau_book.proofs.Works.{begins_work, no_jobs, is_serial, same_after, finished_complete, finished_stopped}
use Rattle.tau_book.proofs.serial.run_serially.Goals as goal

pub make_rest-requires : goal.make_rest-requires
make_rest-requires c =
    no_jobs c.in_ok-book.book c.in_ok-hand.hand (ap (λ (T : Run). T.steps) c.in_ok-book.ensures.run) c.in_ok-book.ensures.store (omega (arith, c.in_ok-hand.ensures.size, c.requires.some)) c.in_ok-hand.ensures.jobs

pub returns-clause-serial : goal.returns-clause-serial
returns-clause-serial c =
    let first : Booked = c.in_ok-book.book in
    let begun : IsAtWork c.args.seed first.system.run first c.in_ok-hand.hand = begins_work c.args.seed first c.in_ok-hand.hand (ap (λ (T : Run). T.steps) c.in_ok-book.ensures.run) c.in_ok-book.ensures.store c.in_ok-hand.ensures.generator in
    let after : IsRunAfter first.system.program c.in_ok-hand.hand.size c.args.seed first.limit first.system.run c.make_rest.new.book.system.run = c.in_ok-make_rest.ensures.after c.args.seed first.system.run begun in
    subst (λ T. IsSerialRun c.args.program.now c.args.jobs c.args.seed c.args.limit T) (sym c.into_trace.ensures.run)
    (is_serial c.args.program.now c.args.jobs c.args.seed c.args.limit c.make_rest.new.book.system.run
    (same_after first.system.program c.args.program.now c.in_ok-hand.hand.size c.args.jobs c.args.seed first.limit c.args.limit first.system.run (record { opening = program_opening c.args.program.now; steps = [] }) c.make_rest.new.book.system.run
    c.in_ok-book.ensures.program c.in_ok-hand.ensures.size c.in_ok-book.ensures.limit c.in_ok-book.ensures.run after))

pub returns-clause-ends : goal.returns-clause-ends
returns-clause-ends c =
    let new : Booked = c.make_rest.new.book in
    let same = c.in_ok-make_rest.ensures.grows in
    let program_is = same.program ∙ c.in_ok-book.ensures.program in
    let limit_is : new.limit ≡ c.args.limit = same.limit ∙ c.in_ok-book.ensures.limit in
    let within : len new.system.run ≤ new.limit = subst (λ (b : Booked). len b.system.run ≤ b.limit) c.book.view_is c.book.invariant.limited in
    record {
      well_formed = c.into_trace.ensures.well_formed;
      legal = subst (λ p. Legal p c.into_trace.result.run) program_is c.into_trace.ensures.legal;
      complete = λ e.
          let done = finished_complete new c.finished.result c.finished.ensures (sym c.unwrap_or-is_complete.ensures ∙ e) in
          subst (λ T. Complete c.args.program.now T × (len T ≤ c.args.limit)) (sym c.into_trace.ensures.run)
          (subst (λ p. Complete p new.system.run) program_is done, omega (arith, within, limit_is));
      stopped = λ e.
          let over = finished_stopped new c.finished.result c.finished.ensures c.in_ok-make_rest.ensures.over (sym c.unwrap_or-is_complete.ensures ∙ e) in
          subst (λ T. (¬ Complete c.args.program.now T) × (len T ≡ c.args.limit)) (sym c.into_trace.ensures.run)
          (λ x. over.0 (subst (λ p. Complete p new.system.run) (sym program_is) x), over.1 ∙ limit_is);
    }
