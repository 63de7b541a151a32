use Rattle.std.proofs.Common.{◌≡◌, length, ap, arith, eqb}
use Rattle.std.specs.List.{list_any}
use Rattle.tau_mailbox.proofs.Lists.{length-filter-le}
use Rattle.tau_eval.specs.Turn.{TurnSoFar}
use Rattle.tau_book.specs.Offers.{open_jobs}
use Rattle.tau_book.proofs.hand.Hand.keep_open.Goals as goal

pub invariant_of-self : goal.invariant_of-self
invariant_of-self c =
    let s = c.self.inside in
    let fewer = length-filter-le (λ (j : TurnSoFar). list_any (λ p. eqb p j.place) c.args.turns.now) s.jobs.items in
    let is : length c.keep_open.new.jobs.items ≡ length (open_jobs c.args.turns.now s.jobs.items) = ap length c.keep_open.ensures.jobs in (
      omega (arith, c.keep_open.new.jobs.ok.0, is, fewer, s.jobs.ok.0, c.self.invariant.0),
      omega (arith, c.keep_open.ensures.capacity, c.self.invariant.1),
      c.self.invariant.2,
      c.self.invariant.3,
    )
