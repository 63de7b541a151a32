-- The order of points and of pairs of points.
use Rattle.std.specs.Prelude.{List}
use Rattle.std.specs.declared.cmp.Ordering.{Ordering}
use Rattle.std.specs.Ordering.{nat_cmp, ordering_then}
use Rattle.std.specs.List.Sorted.{IsStrictlySortedBy}
use Rattle.tau_points.specs.declared.point.Point.{Point}

-- by transactor, then by interval, then by incarnation
abbrev pub point_cmp : Point → Point → Ordering
point_cmp p q = ordering_then (nat_cmp p.who q.who) (ordering_then (nat_cmp p.interval q.interval) (nat_cmp p.incarnation q.incarnation))

-- by the first point, then by the second
abbrev pub pair_cmp : Point × Point → Point × Point → Ordering
pair_cmp x y = ordering_then (point_cmp x.0 y.0) (point_cmp x.1 y.1)

-- each point is before all later ones, so none occurs twice
abbrev pub IsAscending : List Point → Type 0
IsAscending = IsStrictlySortedBy point_cmp

-- each pair is before all later ones, so none occurs twice
abbrev pub IsAscendingInPairs : List (Point × Point) → Type 0
IsAscendingInPairs = IsStrictlySortedBy pair_cmp
