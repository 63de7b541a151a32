-- What contracts see of the type `Numbers`.
use Rattle.std.specs.Prelude.{ℕ, List}

-- the numbers, and how many the list can hold without memory
pub record Kept : Type 0 where
  pub numbers : List ℕ
  pub room : ℕ
