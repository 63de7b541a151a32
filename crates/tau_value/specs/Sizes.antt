-- How large a value is, and which names it holds.
use Rattle.std.specs.Prelude.{◌≡◌, ℕ, ◌+◌, ◌<◌, ◌≤◌, max, List, [], ◌∷◌, ◌++◌, length}
use Rattle.std.proofs.Common.{arith}
use Rattle.tau_value.specs.Numbers.{capped}
use Rattle.tau_value.specs.Val.{Val, unit, truth, int, text, name, list, Vals, none, more, inside}

-- the parts: one for each value, and one for each byte of a text
abbrev mutual
  pub parts_of : Val → ℕ
  parts_of unit = 1
  parts_of (truth b) = 1
  parts_of (int z) = 1
  parts_of (text t) = 1 + length t
  parts_of (name n) = 1
  parts_of (list vs) = 1 + parts_of_all vs

  pub parts_of_all : Vals → ℕ
  parts_of_all none = 0
  parts_of_all (more v vs) = parts_of v + parts_of_all vs

-- the levels: how deep lists stand inside one another, where a name counts as a list
abbrev mutual
  pub levels_of : Val → ℕ
  levels_of unit = 0
  levels_of (truth b) = 0
  levels_of (int z) = 0
  levels_of (text t) = 0
  levels_of (name n) = 1
  levels_of (list vs) = 1 + levels_of_all vs

  pub levels_of_all : Vals → ℕ
  levels_of_all none = 0
  levels_of_all (more v vs) = max (levels_of v) (levels_of_all vs)

-- in bounds: at most 65,536 parts and 64 levels
abbrev pub IsInBounds : Val → Type 0
IsInBounds v = (parts_of v ≤ 65536) × (levels_of v ≤ 64)

-- each name in the value is a number below n
abbrev mutual
  pub NamesBelow : ℕ → Val → Type 0
  NamesBelow n unit = Unit {0}
  NamesBelow n (truth b) = Unit {0}
  NamesBelow n (int z) = Unit {0}
  NamesBelow n (text t) = Unit {0}
  NamesBelow n (name k) = k < n
  NamesBelow n (list vs) = AllNamesBelow n vs

  pub AllNamesBelow : ℕ → Vals → Type 0
  AllNamesBelow n none = Unit {0}
  AllNamesBelow n (more v vs) = NamesBelow n v × AllNamesBelow n vs

-- the least number that each name in the value is below
abbrev mutual
  pub names_end_of : Val → ℕ
  names_end_of unit = 0
  names_end_of (truth b) = 0
  names_end_of (int z) = 0
  names_end_of (text t) = 0
  names_end_of (name k) = k + 1
  names_end_of (list vs) = names_end_of_all vs

  pub names_end_of_all : Vals → ℕ
  names_end_of_all none = 0
  names_end_of_all (more v vs) = max (names_end_of v) (names_end_of_all vs)

-- the sizes that a list keeps of its values, as they are answered in 64 bits
pub record AreSizes (vs : Vals) (parts levels names_end : ℕ) : Type 0 where
  pub of_parts : parts ≡ capped (parts_of_all vs)
  pub of_levels : levels ≡ capped (levels_of_all vs)
  pub of_names : names_end ≡ capped (names_end_of_all vs)

-- the parts of the values of a list
abbrev pub all_parts : List Val → ℕ
all_parts vs = parts_of_all (inside vs)

pub parts-push : (vs : List Val) (v : Val) → parts_of_all (inside (vs ++ v ∷ [])) ≡ parts_of_all (inside vs) + parts_of v
parts-push [] v = omega arith
parts-push (u ∷ us) v = omega (arith, parts-push us v)

pub levels-push : (vs : List Val) (v : Val) → levels_of_all (inside (vs ++ v ∷ [])) ≡ max (levels_of_all (inside vs)) (levels_of v)
levels-push [] v = omega arith
levels-push (u ∷ us) v = omega (arith, levels-push us v)

pub names_end-push : (vs : List Val) (v : Val) → names_end_of_all (inside (vs ++ v ∷ [])) ≡ max (names_end_of_all (inside vs)) (names_end_of v)
names_end-push [] v = omega arith
names_end-push (u ∷ us) v = omega (arith, names_end-push us v)

mutual
  pub names_below-from_end : (n : ℕ) (v : Val) → names_end_of v ≤ n → NamesBelow n v
  names_below-from_end n unit h = tt
  names_below-from_end n (truth b) h = tt
  names_below-from_end n (int z) h = tt
  names_below-from_end n (text t) h = tt
  names_below-from_end n (name k) h = omega arith
  names_below-from_end n (list vs) h = all_names_below-from_end n vs h

  pub all_names_below-from_end : (n : ℕ) (vs : Vals) → names_end_of_all vs ≤ n → AllNamesBelow n vs
  all_names_below-from_end n none h = tt
  all_names_below-from_end n (more v vs) h =
      (names_below-from_end n v (omega arith), all_names_below-from_end n vs (omega arith))

mutual
  pub names_end-le : (n : ℕ) (v : Val) → NamesBelow n v → names_end_of v ≤ n
  names_end-le n unit h = omega arith
  names_end-le n (truth b) h = omega arith
  names_end-le n (int z) h = omega arith
  names_end-le n (text t) h = omega arith
  names_end-le n (name k) h = omega arith
  names_end-le n (list vs) h = all_names_end-le n vs h

  pub all_names_end-le : (n : ℕ) (vs : Vals) → AllNamesBelow n vs → names_end_of_all vs ≤ n
  all_names_end-le n none h = omega arith
  all_names_end-le n (more v vs) h = omega (arith, names_end-le n v h.0, all_names_end-le n vs h.1)
