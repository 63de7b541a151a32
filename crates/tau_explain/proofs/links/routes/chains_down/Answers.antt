use Rattle.std.proofs.Common.{◌≡◌, refl, subst, arith, length}
use Rattle.std.specs.HashMap.{get}
use Rattle.tau_past.specs.Tables.{same_point}
use Rattle.tau_explain.specs.Links.Inner.Linking.{AreDown}
use Rattle.tau_explain.proofs.SourceLemmas.{nexts_none, down_start, down_more}
use Rattle.tau_explain.proofs.links.routes.chains_down.Goals as goal

pub loop-point-init : goal.loop-point-init
loop-point-init c =
    let l = c.args.levels.now in
    let far = get same_point l.far in (
      nexts_none l.index.now l.marks.now far (get same_point c.new-nexts.result) (λ p. rw c.new-nexts.ensures.empty refl),
      down_start l.index.now l.marks.now far c.args.from.now c.new-chains.result.items c.new-chains.ensures.items,
    )

pub loop-point-preserved : goal.loop-point-preserved
loop-point-preserved c =
    let l = c.args.levels.now in (
      c.in_ok-chain.ensures.nexts,
      down_more l.index.now l.marks.now (get same_point l.far) c.args.from.now c.loop-point.point-index _ c.in_ok-chain.chain c.loop-point.chains.items c.push.new.self.items c.loop-point-test.true c.in_ok-chain.ensures.chain c.in_ok-push.ensures.items c.loop-point.invariant.1,
    )

pub returns : goal.returns
returns c =
    let l = c.args.levels.now in
    let down = c.loop-point.invariant.1 in
    let all : c.loop-point.point-index ≡ length c.args.from.now = omega (arith, down.within, c.loop-point-test.false) in
    subst (λ n. AreDown l.index.now l.marks.now (get same_point l.far) c.args.from.now n c.loop-point.chains.items) all down
