use Rattle.std.proofs.Common.{◌≡◌, take}
use Rattle.std.specs.Prelude.{Contains, IsFalse}
use Rattle.tau_points.specs.declared.point.Point.{Point}
use Rattle.tau_view.specs.Held.{fate_in, is_firm}
use Rattle.tau_view.proofs.fate.least.first_not_firm.Given as goal

abbrev pub invariant-loop-point : goal.invariant-loop-point
invariant-loop-point g l = (q : Point) → Contains (take l.point-index l.point-items) q → IsFalse (is_firm (fate_in (g.V.View.held l.view).history q)) → ⊥
