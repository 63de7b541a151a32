-- Ascending lists of numbers.
use Rattle.std.specs.Prelude.{◌≡◌, ℕ, ◌<◌, ◌≤◌, List, Option, Some, None, Contains}
use Rattle.std.specs.List.{AllPairs}

-- numbers, and how many more fit without memory
pub record WithRoom : Type 0 where
  pub numbers : List ℕ
  pub room : ℕ

-- each number is above all earlier ones
abbrev pub IsAscending : List ℕ → Type 0
IsAscending ns = AllPairs (λ a b. a < b) ns

-- the least number of the list that is at least `from`; None where there is none
abbrev pub IsLeastMember : ℕ → List ℕ → Option ℕ → Type 0
IsLeastMember from ns None = (n : ℕ) → Contains ns n → n < from
IsLeastMember from ns (Some r) = (from ≤ r) × Contains ns r × ((n : ℕ) → Contains ns n → from ≤ n → r ≤ n)
