use Rattle.std.proofs.Common.{List, below_more, arith}
use Rattle.tau_eval.specs.Turn.{TurnSoFar}
use Rattle.tau_book.proofs.JobLists.{place_of, not_there}
use Rattle.tau_book.proofs.jobs.place_of_number.Goals as goal

pub loop-k-preserved : goal.loop-k-preserved
loop-k-preserved c = below_more _ _ c.loop-k.invariant (not_there c.args.jobs.now c.args.number c.loop-k.k c.number_of.result c.loop-k-test.true c.number_of.ensures c.if-number_of-number.false)

pub unreachable-requires : goal.unreachable-requires
unreachable-requires c =
    let jobs : List TurnSoFar = c.args.jobs.now in
    let r = place_of jobs c.args.number c.requires in
    c.loop-k.invariant r.0 (omega (arith, r.1.within, c.loop-k-test.false)) r.1
