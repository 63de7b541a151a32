-- Places and numbers below a bound: counts of them, and the least at which something holds.
use Rattle.std.specs.Prelude.{ℕ, zero, suc, ◌+◌, ◌<◌, ◌≤◌, Bool, Option, Some, None, if◌then◌else◌, ◌&&◌, nat_le}

-- how many places below k pass the test
unfoldable pub count_below : (ℕ → Bool) → ℕ → ℕ
count_below test zero = 0
count_below test (suc k) = count_below test k + (if test k then 1 else 0)

-- how many places from a on and below k pass the test
abbrev pub count_from : ℕ → (ℕ → Bool) → ℕ → ℕ
count_from a test k = count_below (λ j. nat_le a j && test j) k

-- the least number from a on and below n at which P holds; None where there is none
abbrev pub IsLeastFrom : ℕ → (ℕ → Type 0) → ℕ → Option ℕ → Type 0
IsLeastFrom a P n None = (j : ℕ) → a ≤ j → j < n → ¬ P j
IsLeastFrom a P n (Some k) = (a ≤ k) × (k < n) × P k × ((j : ℕ) → a ≤ j → j < k → ¬ P j)

-- the first place below n at which P holds; None where there is none
abbrev pub IsFirst : (ℕ → Type 0) → ℕ → Option ℕ → Type 0
IsFirst P n None = (j : ℕ) → j < n → ¬ P j
IsFirst P n (Some k) = (k < n) × P k × ((j : ℕ) → j < k → ¬ P j)
