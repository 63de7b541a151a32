-- What a search meets on its way; no clause of a public call rests on this.
use Rattle.std.specs.Prelude.{◌≡◌, ◌⊎◌, ℕ, ◌+◌, ◌*◌, ◌≤◌, Bool, true, false, List, [], ◌∷◌, ◌++◌, Some, length, slice_get, slice_set, Contains, IsTrue}
use Rattle.tau_history.specs.declared.fate.Fate.{Fate}
use Rattle.tau_points.specs.declared.point.Point.{Point}
use Rattle.tau_versions.specs.Logs.Told.{Told}
use Rattle.tau_versions.specs.Search.Searching.{fate_of, goes_on, IsPassed}

-- u was met before, and nothing changes; or it is met now, and left to be gone on from
pub data Meets (u : ℕ) (met0 met : List Bool) (left0 left : List ℕ) : Type 0 where
  known : slice_get met0 u ≡ Some true → met ≡ met0 → left ≡ left0 → Meets u met0 met left0 left
  fresh : slice_get met0 u ≡ Some false → met ≡ slice_set met0 u true → left ≡ left0 ++ u ∷ [] → Meets u met0 met left0 left

-- how many transactors weren't met
abbrev pub unmet : List Bool → ℕ
unmet [] = 0
unmet (true ∷ bs) = unmet bs
unmet (false ∷ bs) = unmet bs + 1

-- some point of P is wanted
pub record HasWanted (wanted : Fate → Bool) (logs : List Told) (numbers : ℕ → ℕ) (P : Point → Type 0) : Type 0 where
  pub point : Point
  pub in_set : P point
  pub is : IsTrue (wanted (fate_of logs numbers point))

-- u is the transactor of a point of P from which the search goes on
pub record IsOpenIn (logs : List Told) (numbers : ℕ → ℕ) (P : Point → Type 0) (u : ℕ) : Type 0 where
  pub point : Point
  pub in_set : P point
  pub goes : IsTrue (goes_on (fate_of logs numbers point))
  pub by : point.who ≡ u

-- the search has come to all points of P: none is wanted, and the transactors that were met are left to be gone on from
pub record Comes (wanted : Fate → Bool) (logs : List Told) (numbers : ℕ → ℕ) (P : Point → Type 0) (met0 met : List Bool) (left0 left : List ℕ) : Type 0 where
  pub count : length met ≡ length met0
  pub kept : (u : ℕ) → slice_get met0 u ≡ Some true → slice_get met u ≡ Some true
  pub fresh_left : (u : ℕ) → slice_get met u ≡ Some true → (slice_get met0 u ≡ Some true) ⊎ Contains left u
  pub left_kept : (u : ℕ) → Contains left0 u → Contains left u
  pub left_open : (u : ℕ) → Contains left u → Contains left0 u ⊎ IsOpenIn logs numbers P u
  pub passed : (q : Point) → P q → IsPassed wanted logs numbers met q
  pub fewer : 2 * unmet met + length left ≤ 2 * unmet met0 + length left0
