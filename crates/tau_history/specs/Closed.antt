-- What contracts inside the crate see of the closed numbers of a history.
use Rattle.std.specs.Prelude.{◌≡◌, ℕ, ◌≤◌, List, length, take}

-- the numbers, and how many more fit without memory
pub record ClosedList : Type 0 where
  pub numbers : List ℕ
  pub spare : ℕ

-- the list is a front of the other
pub record IsFront (xs ys : List ℕ) : Type 0 where
  pub is : xs ≡ take (length xs) ys
  pub shorter : length xs ≤ length ys
