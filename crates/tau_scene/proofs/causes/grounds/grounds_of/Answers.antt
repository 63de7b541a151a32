use Rattle.std.proofs.Common.{◌↔◌, subst}
use Rattle.std.specs.Prelude.{Contains}
use Rattle.tau_points.specs.declared.point.Point.{Point}
use Rattle.tau_trace.specs.Run.{Run}
use Rattle.tau_past.specs.Safety.{RolledBack}
use Rattle.tau_scene.specs.Causes.Looks.{RestsOnFallen}
use Rattle.tau_scene.proofs.causes.grounds.grounds_of.Goals as goal

pub returns : goal.returns
returns c = record {
  fallen_are = subst (λ (R : Run). (q : Point) → Contains c.in_ok-fallen.fallen q ↔ RolledBack R q) c.requires.index c.in_ok-fallen.ensures;
  kept_count = c.in_ok-kept.ensures.length;
  kept_are = c.in_ok-kept.ensures.marked;
  resting_are = λ q h.
      let told = subst (λ (R : Run). Contains c.in_ok-resting.resting q ↔ (Contains c.args.points.now q × RestsOnFallen R q)) c.requires.index (c.in_ok-resting.ensures q) in
      ((λ x. (told.0 x).1), (λ r. told.1 (h, r)));
}
