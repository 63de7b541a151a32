use Rattle.std.specs.HashMap.{get}
use Rattle.tau_past.specs.Tables.{same_point}
use Rattle.tau_explain.proofs.LinkLemmas.{goes_more}
use Rattle.tau_explain.proofs.links.linking.chain_from.Goals as goal

pub loop-left-preserved : goal.loop-left-preserved
loop-left-preserved c =
    let l = c.args.levels.now in (
      goes_more l.index.now l.marks.now (get same_point l.far) c.args.first c.loop-left.chain.items c.push-in-loop-left.new.self.items c.loop-left.last c.in_ok-next.next _ c.loop-left.invariant.0 c.in_ok-next.ensures.next c.in_ok-push-2.ensures.items,
      c.in_ok-next.ensures.next.next.nearer,
      c.in_ok-next.ensures.nexts,
    )
