use Rattle.std.proofs.Common.{◌∙◌, ◌<◌, ◌+◌, List, length, sym, ap, arith}
use Rattle.tau_eval.specs.Turn.{TurnSoFar}
use Rattle.tau_book.specs.Offers.{open_jobs}
use Rattle.tau_book.proofs.JobLists.{one_taken_up}
use Rattle.tau_book.proofs.tidying.count_jobs.Goals as goal

pub returns-then-count_open-gt0-clause-count : goal.returns-then-count_open-gt0-clause-count
returns-then-count_open-gt0-clause-count c =
    let own : List TurnSoFar = open_jobs c.args.turns.now c.args.hand.now.jobs in
    let back : List TurnSoFar = open_jobs c.args.turns.now c.args.store.now in
    let room : length own < c.args.hand.now.size = omega (arith, c.count_open-own.ensures.count, c.size.ensures.size, c.if-own-size.true) in
    let some : 0 < length back = omega (arith, c.count_open.ensures, c.if-count_open-gt0.true) in
    ap (λ n. n + 1) c.count_open-own.ensures.count ∙ sym (one_taken_up own back c.args.hand.now.size room some)
