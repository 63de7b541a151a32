-- What the calls of a disk do to its bytes, and what a crash may leave of a write.
use Rattle.std.specs.Prelude.{◌≡◌, ℕ, ◌+◌, ◌≤◌, max, List, ◌++◌, length, take, drop, Option, Some, None, ⊤}

-- the bytes with others written over them from a place on, and past the end
abbrev pub overwritten : List ℕ → ℕ → List ℕ → List ℕ
overwritten old at bytes = take at old ++ bytes ++ drop (at + length bytes) old

-- told bytes were written over; untold ones stay untold
abbrev pub Writes : Option (List ℕ) → ℕ → List ℕ → Option (List ℕ) → Type 0
Writes None at bytes new = new ≡ None
Writes (Some old) at bytes new = new ≡ Some (overwritten old at bytes)

-- these are the told bytes from a place on
abbrev pub Reads : Option (List ℕ) → ℕ → List ℕ → Type 0
Reads None at bytes = ⊤
Reads (Some file) at bytes = bytes ≡ take (length bytes) (drop at file)

-- what a crash may leave of a write of n bytes: any bytes in its range and past the old end, the same elsewhere
pub record Torn (at n : ℕ) (old new : List ℕ) : Type 0 where
  pub before : take at new ≡ take at old
  pub after : drop (at + n) new ≡ drop (at + n) old
  pub no_shorter : length old ≤ length new
  pub no_longer : length new ≤ max (length old) (at + n)

-- each new image is an old one after a step
abbrev pub Follows : (List ℕ → List ℕ → Type 0) → (List ℕ → Type 0) → (List ℕ → Type 0) → Type 0
Follows step old new = (c : List ℕ) → new c → (d : List ℕ) × old d × step d c

-- where the bytes are told, they are the one image
abbrev pub Only : Option (List ℕ) → (List ℕ → Type 0) → Type 0
Only None images = ⊤
Only (Some bytes) images = (c : List ℕ) → images c → c ≡ bytes

-- the images of a disk of which nothing is known
abbrev pub AnyBytes : List ℕ → Type 0
AnyBytes c = ⊤
