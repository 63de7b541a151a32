use Rattle.std.proofs.Common.{◌↔◌}
use Rattle.std.specs.Prelude.{Contains}
use Rattle.tau_points.specs.declared.point.Point.{Point}
use Rattle.tau_scene.specs.Causes.Inner.Resting.{HasChainAt}
use Rattle.tau_scene.proofs.causes.resting.with_chain.Given as goal

abbrev pub invariant-loop-at : goal.invariant-loop-at
invariant-loop-at l = (q : Point) → Contains l.picked.items q ↔ HasChainAt l.points l.chains l.at q
