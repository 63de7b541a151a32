use Rattle.std.proofs.Common.{◌≡◌, ◌↔◌, ◌<◌, ◌∙◌, List, Option, Some, length, ap, sym, subst, arith}
use Rattle.std.specs.Prelude.{Contains}
use Rattle.std.proofs.lemmas.Option.{slice_get-get_or}
use Rattle.tau_points.specs.declared.point.Point.{Point}
use Rattle.tau_explain.specs.declared.chains.chained.Chained.{Chained}
use Rattle.tau_scene.specs.Causes.Inner.Resting.{HasChainAt}
use Rattle.tau_scene.proofs.Collecting.{picks_more}
use Rattle.tau_scene.proofs.causes.resting.with_chain.Goals as goal

pub loop-at-preserved : goal.loop-at-preserved
loop-at-preserved c =
    let lt : c.loop-at.at < length c.args.points.now = omega (arith, c.loop-at-test.true) in
    picks_more c.args.points.now c.args.chains.now c.loop-at.at _ c.index-chains-at.result c.loop-at.picked.items c.push_if.new.points.items
    (slice_get-get_or c.args.points.now c.loop-at.at _ lt)
    (slice_get-get_or c.args.chains.now c.loop-at.at c.index-chains-at.result (omega (arith, lt, c.requires)) ∙ ap (λ (o : Option (List Chained)). Some o) (sym c.index-chains-at.is))
    c.in_ok-push_if.ensures c.loop-at.invariant

pub returns : goal.returns
returns c =
    let all : c.loop-at.at ≡ length c.args.points.now = omega (arith, c.loop-at-test.false, c.loop-at.auto.at-end) in
    subst (λ n. (q : Point) → Contains c.loop-at.picked.items q ↔ HasChainAt c.args.points.now c.args.chains.now n q) all c.loop-at.invariant
