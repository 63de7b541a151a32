-- What a search for pasts goes through: points found and points left, and places whose carried points were listed.
use Rattle.std.specs.Prelude.{◌≡◌, ◌⊎◌, ℕ, Bool, true, List, Some, slice_get, Contains, length, ◌+◌}
use Rattle.tau_points.specs.declared.point.Point.{Point}
use Rattle.tau_points.specs.Members as members
use Rattle.tau_trace.specs.Run.{Run}
use Rattle.tau_past.specs.Carried.{Carried}
use Rattle.tau_past.specs.Pasts.{Link, Past, Everywhere}
use Rattle.tau_past.specs.Safety.{RolledBack}
use Rattle.tau_past.specs.Tables.{TakesAt}

-- the points that the step at place k carries were listed
abbrev pub IsPassed : List Bool → ℕ → Type 0
IsPassed passed k = slice_get passed k ≡ Some true

-- a step at a passed place carries the point
abbrev pub IsListed : Run → List Bool → Point → Type 0
IsListed T passed q = (k : ℕ) × IsPassed passed k × Carried T k q

-- points are added to a list, all of which P allows; more places are passed, and each point that the step at one of them
-- carries is in the list or was listed before
pub record Adds (T : Run) (P : Point → Type 0) (passed0 passed : List Bool) (points0 points : List Point) : Type 0 where
  pub kept : (q : Point) → Contains points0 q → Contains points q
  pub allowed : (q : Point) → Contains points q → Contains points0 q ⊎ P q
  pub passed_kept : (k : ℕ) → IsPassed passed0 k → IsPassed passed k
  pub listed : (q : Point) → IsListed T passed q → Contains points q ⊎ IsListed T passed0 q

-- all that the step at a place carries is added
pub record AddsCarried (T : Run) (place : ℕ) (passed0 passed : List Bool) (points0 points : List Point) : Type 0 where
  pub adds : Adds T (Carried T place) passed0 passed points0 points
  pub passes : IsPassed passed place

-- the step at some place at which p takes carries q
abbrev pub TakesSome : Run → Point → Point → Type 0
TakesSome T p q = (j : ℕ) × TakesAt T p j × Carried T j q

-- all that point p takes is added
pub record AddsTaken (T : Run) (p : Point) (passed0 passed : List Bool) (points0 points : List Point) : Type 0 where
  pub adds : Adds T (TakesSome T p) passed0 passed points0 points
  pub passes : (j : ℕ) → TakesAt T p j → IsPassed passed j

-- q is p, or p leads to q
abbrev pub IsOrFollows : Run → Point → Point → Type 0
IsOrFollows T p q = (q ≡ p) ⊎ Link T Everywhere p q

-- all that point p leads to is added
pub record AddsFollowing (T : Run) (p : Point) (passed0 passed : List Bool) (points0 points : List Point) : Type 0 where
  pub adds : Adds T (IsOrFollows T p) passed0 passed points0 points
  pub follows : (q : Point) → Link T Everywhere p q → Contains points q ⊎ IsListed T passed0 q

-- the points found are closed: they hold all that their members lead to, and all that was listed
pub record IsComplete (T : Run) (found : List Point) (passed : List Bool) : Type 0 where
  pub follows : (x y : Point) → Contains found x → Link T Everywhere x y → Contains found y
  pub listed : (q : Point) → IsListed T passed q → Contains found q

-- the past of a point is added to the points found
abbrev pub AddsPast : Run → Point → List Point → List Point → Type 0
AddsPast T p found0 found = (q : Point) → (Contains found q → Contains found0 q ⊎ Past T p q) × (Contains found0 q ⊎ Past T p q → Contains found q)

-- a rolled-back point is in the past of p
pub record PastHasFallen (T : Run) (p : Point) : Type 0 where
  pub root : Point
  pub in_past : Past T p root
  pub rolled_back : RolledBack T root

-- each rolled-back point that was found was found before
abbrev pub FoundNoFallen : Run → List Point → List Point → Type 0
FoundNoFallen T found0 found = (q : Point) → Contains found q → RolledBack T q → Contains found0 q

-- one point of a search: it was found before, and nothing changes; or it is found now, and all that it leads to is left
pub data Visits (T : Run) (p : Point) (found0 found : List Point) (passed0 passed : List Bool) (left0 left : List Point) : Type 0 where
  known : Contains found0 p → found ≡ found0 → passed ≡ passed0 → left ≡ left0 → Visits T p found0 found passed0 passed left0 left
  fresh : (¬ Contains found0 p) → members.Adds found0 found p → length found ≡ length found0 + 1 → AddsFollowing T p passed0 passed left0 left → Visits T p found0 found passed0 passed left0 left
