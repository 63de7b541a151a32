-- The Checkpoints of a trace, and the points that can't be kept.
use Rattle.std.specs.Prelude.{◌≡◌, ◌⊎◌, ◌↔◌, ℕ, ◌<◌, List, [], ◌∷◌, ◌++◌, Some, Contains, slice_get, length}
use Rattle.std.specs.List.{AllPairs}
use Rattle.tau_points.specs.declared.point.Point.{Point}
use Rattle.tau_trace.specs.Run.{Run}
use Rattle.tau_past.specs.Audits.{ChecksAt}
use Rattle.tau_explain.specs.Links.Links.{IsMade}
use Rattle.tau_explain.specs.Inner.Causes.{IsMadePoint}

-- the Checkpoint at place k, if one stands there, is added
pub data AddsCheckpoint (T : Run) (k : ℕ) (places0 places : List ℕ) (points0 points : List Point) : Type 0 where
  no_checkpoint : ((p : Point) → ¬ ChecksAt T k p) → places ≡ places0 → points ≡ points0 → AddsCheckpoint T k places0 places points0 points
  one_checkpoint : {x : Point} → ChecksAt T k x → places ≡ places0 ++ k ∷ [] → points ≡ points0 ++ x ∷ [] → AddsCheckpoint T k places0 places points0 points

-- the places below n at which Checkpoints stand, ascending, and the points at which they were made
pub record AreCheckpoints (T : Run) (n : ℕ) (places : List ℕ) (points : List Point) : Type 0 where
  pub ascending : AllPairs (λ a b. a < b) places
  pub all : (k : ℕ) → Contains places k ↔ ((k < n) × ((p : Point) × ChecksAt T k p))
  pub count : length points ≡ length places
  pub each : (i k : ℕ) (p : Point) → slice_get places i ≡ Some k → slice_get points i ≡ Some p → ChecksAt T k p

-- the point of the step at place j, if one made it, is added, unless it is in the set
pub record AddsUnkept (T : Run) (kept : List Point) (j : ℕ) (points0 points : List Point) : Type 0 where
  pub stay : (q : Point) → Contains points0 q → Contains points q
  pub allowed : (q : Point) → Contains points q → Contains points0 q ⊎ (IsMade T q × ¬ Contains kept q)
  pub added : (q : Point) → IsMadePoint T j q → Contains points q ⊎ Contains kept q

-- points at which steps were made that are not in the set, with all of those of steps below n
pub record AreUnkept (T : Run) (kept : List Point) (n : ℕ) (points : List Point) : Type 0 where
  pub unkept : (q : Point) → Contains points q → IsMade T q × ¬ Contains kept q
  pub others : (j : ℕ) (q : Point) → j < n → IsMadePoint T j q → Contains points q ⊎ Contains kept q
