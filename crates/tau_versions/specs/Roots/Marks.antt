-- For each transactor a point that was taken.
use Rattle.std.specs.Prelude.{◌≡◌, ◌⊎◌, ℕ, List, Option, Some, slice_get, Contains}
use Rattle.tau_points.specs.declared.point.Point.{Point}

-- each mark is a point that was taken
abbrev pub AreMarks : List Point → List (Option Point) → Type 0
AreMarks taken marks = (u : ℕ) (p : Point) → slice_get marks u ≡ Some (Some p) → Contains taken p

-- the point is the mark of its transactor, and the other marks stay; or all stay
abbrev pub IsMarked : List (Option Point) → Point → List (Option Point) → Type 0
IsMarked old point new = (u : ℕ) (p : Point) → slice_get new u ≡ Some (Some p) → (p ≡ point) ⊎ (slice_get old u ≡ Some (Some p))
