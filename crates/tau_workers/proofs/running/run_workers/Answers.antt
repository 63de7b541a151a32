use Rattle.std.proofs.Common.{◌≡◌, IfOk, length, ap, ◌∙◌, subst}
use Rattle.tau_legal.specs.Ends.{EndsAt}
use Rattle.tau_seat.proofs.Sums.{length_upto}
use Rattle.tau_workers.proofs.running.run_workers.Goals as goal

pub work-requires-clause-numbers : goal.work-requires-clause-numbers
work-requires-clause-numbers g c κs within = ap length c.in-Ok.ensures.numbers ∙ length_upto 0 c.args.settings.workers

pub returns : goal.returns
returns g c =
    let program : c.close.result.system.program ≡ c.args.program.now = c.close.ensures.book.program_is ∙ c.in_ok-seat.ensures.seat.1 ∙ c.in-Ok.ensures.program ∙ c.in_ok-book.ensures.program in
    let limit : c.close.result.limit ≡ c.args.settings.limit = c.close.ensures.book.limit_is ∙ c.in_ok-seat.ensures.seat.2 ∙ c.in-Ok.ensures.limit ∙ c.in_ok-book.ensures.limit in
    record {
      ends =
          subst (λ p. IfOk c.finish.result (λ r. EndsAt c.args.settings.limit p r.trace.run r.is_complete)) program
          (subst (λ n. IfOk c.finish.result (λ r. EndsAt n c.close.result.system.program r.trace.run r.is_complete)) limit c.finish.ensures.ends);
    }
