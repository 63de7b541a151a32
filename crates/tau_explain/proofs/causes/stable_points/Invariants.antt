use Rattle.std.proofs.Common.{◌↔◌}
use Rattle.std.specs.Prelude.{Contains}
use Rattle.tau_points.specs.declared.point.Point.{Point}
use Rattle.tau_explain.specs.Inner.Causes.{StabilizedAt}
use Rattle.tau_explain.proofs.CauseLemmas.{IsBelowAt}
use Rattle.tau_explain.proofs.causes.stable_points.Given as goal

abbrev pub invariant-loop-place : goal.invariant-loop-place
invariant-loop-place l = (q : Point) → Contains l.points.items q ↔ IsBelowAt (StabilizedAt l.index l.marks) l.place q
