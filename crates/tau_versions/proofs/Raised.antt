-- Lists of numbers read with 0 past their end.
use Rattle.std.proofs.Common.{◌≡◌, ◌≢◌, ℕ, ◌+◌, ◌<◌, ◌≤◌, max, List, length, get_or, arith}
use Rattle.std.proofs.Math.ListN.{get_or-eq_default}

-- below place k each number is the greater of both, from there on it is the old one
abbrev pub Raised : List ℕ → List ℕ → ℕ → List ℕ → Type 0
Raised old others k xs = (u : ℕ) → (u < k → get_or xs u 0 ≡ max (get_or old u 0) (get_or others u 0)) × (k ≤ u → get_or xs u 0 ≡ get_or old u 0)

-- a list is raised by one more number
pub raised_more : (old others : List ℕ) (k : ℕ) (xs ys : List ℕ) (n : ℕ) → n ≡ get_or others k 0 → Raised old others k xs → get_or ys k 0 ≡ max (get_or xs k 0) n → ((u : ℕ) → u ≢ k → get_or ys u 0 ≡ get_or xs u 0) → Raised old others (k + 1) ys
raised_more old others k xs ys n is raised here elsewhere u = grind (arith, raised u, raised k, here, elsewhere u, is)

-- raised by all numbers
pub raised_all : (old others xs : List ℕ) (k : ℕ) → length others ≤ k → Raised old others k xs → (u : ℕ) → get_or xs u 0 ≡ max (get_or old u 0) (get_or others u 0)
raised_all old others xs k end raised u = grind (arith, raised u, get_or-eq_default others 0 {n = u})
