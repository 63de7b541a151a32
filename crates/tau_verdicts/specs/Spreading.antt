-- How a doomed point dooms those that have taken it.
use Rattle.std.specs.Prelude.{◌≡◌, ◌⊎◌, ℕ, ◌+◌, ◌*◌, ◌<◌, ◌≤◌, Bool, true, List, Some, length, slice_get, Contains, IsTrue, IsFalse}
use Rattle.tau_points.specs.declared.point.Point.{Point}
use Rattle.tau_versions.specs.Logs.Told.{Told}
use Rattle.tau_versions.specs.Search.Searching.{fate_of, goes_on}
use Rattle.tau_versions.specs.Search.Walks.{unmet}
use Rattle.tau_verdicts.specs.Latest.{latest}

-- the point isn't the last one of its transactor, which exists
pub record IsLeft (logs : List Told) (p : Point) : Type 0 where
  pub exists : p.who < length logs
  pub stops : IsFalse (goes_on (fate_of logs (latest logs) p))

-- where u is doomed, so is each present point that has taken its present one
pub record IsSpread (logs : List Told) (takers : ℕ → List Point) (who : ℕ) (old new : ℕ → Bool) : Type 0 where
  pub kept : (u : ℕ) → IsTrue (old u) → IsTrue (new u)
  pub begun : IsTrue (new who)
  pub passed : (u : ℕ) (p : Point) → IsTrue (new u) → Contains (takers u) p → p.who ≤ length logs → IsTrue (old u) ⊎ (IsLeft logs p ⊎ IsTrue (new p.who))

-- the point is left, or its transactor was met; nothing is said of one that isn't listed
abbrev pub IsPassed : List Told → List Bool → Point → Type 0
IsPassed logs met p = p.who < length met → IsLeft logs p ⊎ (slice_get met p.who ≡ Some true)

-- all points of P were passed, and the transactors that were met are left to be gone on from
pub record Comes (logs : List Told) (P : Point → Type 0) (met0 met : List Bool) (left0 left : List ℕ) : Type 0 where
  pub count : length met ≡ length met0
  pub kept : (u : ℕ) → slice_get met0 u ≡ Some true → slice_get met u ≡ Some true
  pub fresh_left : (u : ℕ) → slice_get met u ≡ Some true → (slice_get met0 u ≡ Some true) ⊎ Contains left u
  pub left_kept : (u : ℕ) → Contains left0 u → Contains left u
  pub passed : (q : Point) → P q → IsPassed logs met q
  pub fewer : 2 * unmet met + length left ≤ 2 * unmet met0 + length left0

-- `who` was met, and the takers of each one that is met were passed, unless it was met before or is left
pub record Spreads (logs : List Told) (takers : ℕ → List Point) (who : ℕ) (met0 met : List Bool) (left : List ℕ) : Type 0 where
  pub count : length met ≡ length met0
  pub kept : (u : ℕ) → slice_get met0 u ≡ Some true → slice_get met u ≡ Some true
  pub begun : slice_get met who ≡ Some true
  pub passed : (u : ℕ) (p : Point) → slice_get met u ≡ Some true → Contains (takers u) p → (slice_get met0 u ≡ Some true) ⊎ (IsPassed logs met p ⊎ Contains left u)
