use Rattle.std.proofs.Common.{◌<◌, ◌∙◌, length, get_or, arith}
use Rattle.std.proofs.lemmas.Option.{slice_get-get_or}
use Rattle.tau_layout.specs.declared.lanes.Lane.{Lane}
use Rattle.tau_layout.proofs.RankLemmas.{ranks_next}
use Rattle.tau_layout.proofs.columns.ranks_of.Goals as goal

pub loop-rank-preserved : goal.loop-rank-preserved
loop-rank-preserved c =
    let lanes = c.args.lanes.now in
    let k = c.loop-rank.rank in
    let d : Lane = record { node = 0; who = 0 } in
    let below : k < length lanes = omega (arith, c.loop-rank-test.true) in (
      ranks_next lanes k (get_or lanes k d) c.loop-rank.ranks.items c.put_rank.new.ranks.items c.loop-rank.invariant.0 (slice_get-get_or lanes k d below) c.put_rank.ensures,
      c.put_rank.ensures.0 ∙ c.loop-rank.invariant.1,
    )
