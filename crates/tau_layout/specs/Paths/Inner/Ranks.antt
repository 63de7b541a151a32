-- The ranks of transactors.
use Rattle.std.specs.Prelude.{◌≡◌, ℕ}
use Rattle.tau_layout.specs.Plans.{Plan, HasRank}

-- a transactor has one lane
abbrev pub HasOneRank : Plan → Type 0
HasOneRank plan = (t q r : ℕ) → HasRank plan t q → HasRank plan t r → q ≡ r
