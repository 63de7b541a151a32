use Rattle.std.proofs.Common.{◌+◌, take, sym, subst, List}
use Rattle.std.specs.Prelude.{Contains}
use Rattle.std.specs.HashMap.{get}
use Rattle.std.proofs.lemmas.List.{take_all}
use Rattle.tau_points.specs.declared.point.Point.{Point}
use Rattle.tau_explain.specs.Chains.Inner.Distances.{same_point, IsLeastAt}
use Rattle.tau_explain.proofs.NearestLemmas.{least_more, least_passed}
use Rattle.tau_explain.proofs.chains.nearest.least_at.Goals as goal
use Rattle.tau_explain.proofs.chains.nearest.least_at.Goals.{then-is_at, else-is_at}

pub loop-point-preserved : goal.loop-point-preserved
loop-point-preserved c = elim c.if-is_at.branch [
  | then-is_at w ↦ subst (IsLeastAt (Contains (take (c.loop-point.point-index + 1) c.args.points.now)) (get same_point c.args.far.now) c.args.distance) (sym w.least-is)
      (least_more _ _ _ _ _ _ _ c.loop-point-test.true (c.is_at.ensures.0 w.if-is_at.true) w.lesser.ensures.either w.lesser.ensures.least w.lesser.ensures.point c.loop-point.invariant)
  | else-is_at w ↦ subst (IsLeastAt (Contains (take (c.loop-point.point-index + 1) c.args.points.now)) (get same_point c.args.far.now) c.args.distance) (sym w.least-is)
      (least_passed _ _ _ _ _ _ c.loop-point-test.true (λ e. let t = c.is_at.ensures.1 e in let f = w.if-is_at.false in cc) c.loop-point.invariant)
]

pub returns : goal.returns
returns c = subst (λ (l : List Point). IsLeastAt (Contains l) (get same_point c.args.far.now) c.args.distance c.loop-point.least) (take_all _ _ c.loop-point-test.false) c.loop-point.invariant
