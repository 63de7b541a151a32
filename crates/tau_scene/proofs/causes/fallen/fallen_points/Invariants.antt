use Rattle.std.proofs.Common.{◌↔◌}
use Rattle.std.specs.Prelude.{Contains}
use Rattle.tau_points.specs.declared.point.Point.{Point}
use Rattle.tau_past.specs.Audits.{RollsBackAt}
use Rattle.tau_explain.proofs.CauseLemmas.{IsBelowAt}
use Rattle.tau_scene.proofs.causes.fallen.fallen_points.Given as goal

abbrev pub invariant-loop-place : goal.invariant-loop-place
invariant-loop-place l = (q : Point) → Contains l.points.items q ↔ IsBelowAt (λ j p. RollsBackAt l.index p j) l.place q
