use Rattle.std.proofs.Common.{refl, inl, inr}
use Rattle.tau_points.proofs.PointOrder.{same_from_ne, other_from_ne}
use Rattle.tau_points.proofs.Spans.{walk_start, walk_more, walked}
use Rattle.tau_points.proofs.reaching.RelationLinks.push_next.Goals as goal

pub loop-pair-init : goal.loop-pair-init
loop-pair-init c = walk_start _ _ _

pub loop-pair-preserved : goal.loop-pair-preserved
loop-pair-preserved c = walk_more _ _ _ _ _ _ _ c.loop-pair-test.true (same_from_ne _ _ _ c.ne.ensures c.if-ne.false) c.in_ok-push.ensures.items c.loop-pair.invariant

pub returns-then-ne : goal.returns-then-ne
returns-then-ne c =
    walked _ _ _ _ _ _ _ _ c.pairs.ensures.pairs refl c.pairs.ensures.ascending c.first_from.ensures.within c.first_from.ensures.before c.first_from.ensures.not_before c.loop-pair.invariant
    (inr (c.loop-pair-test.true, other_from_ne _ _ _ c.ne.ensures c.if-ne.true))

pub returns : goal.returns
returns c =
    walked _ _ _ _ _ _ _ _ c.pairs.ensures.pairs refl c.pairs.ensures.ascending c.first_from.ensures.within c.first_from.ensures.before c.first_from.ensures.not_before c.loop-pair.invariant
    (inl c.loop-pair-test.false)
