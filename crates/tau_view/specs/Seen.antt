-- Points that were seen before.
use Rattle.std.specs.Prelude.{List, Option, Some, Contains}
use Rattle.tau_points.specs.declared.point.Point.{Point}

-- each point that stands in the second list is in the first
abbrev pub AllAmong : List Point → List (Option Point) → Type 0
AllAmong points recent = (p : Point) → Contains recent (Some p) → Contains points p
