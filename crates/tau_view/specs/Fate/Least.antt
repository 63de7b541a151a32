-- The least point with a property (docs/rules.md, "Points").
use Rattle.std.specs.Prelude.{◌≢◌, Option, MatchOption}
use Rattle.std.specs.declared.cmp.Ordering.TheVariants.{Less}
use Rattle.tau_points.specs.declared.point.Point.{Point}
use Rattle.tau_points.specs.Order.{point_cmp}

-- it has the property, and no point before it has
pub record IsLeast (P : Point → Type 0) (p : Point) : Type 0 where
  pub holds : P p
  pub least : (q : Point) → P q → point_cmp q p ≢ Less

-- the least one, or none where no point has the property
abbrev pub IsLeastIfAny : (Point → Type 0) → Option Point → Type 0
IsLeastIfAny P found = MatchOption found ((q : Point) → ¬ P q) (IsLeast P)
