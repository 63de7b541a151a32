-- What is reached from a set by following a relation.
use Rattle.std.specs.Prelude.{◌≡◌, ◌⊎◌, List, [], ◌∷◌, Contains, AllPairs}

-- the least set that holds P and, with x, each y to which L leads from x
pub data Reach {A : Type 0} (L : A → A → Type 0) (P : A → Type 0) : A → Type 0 where
  start : {x : A} → P x → Reach L P x
  next : {x y : A} → Reach L P x → L x y → Reach L P y

-- the pair (x, y) is in the list
abbrev pub Leads : {A : Type 0} → List (A × A) → A → A → Type 0
Leads links x y = Contains links (x, y)

-- every member of P is in Q
abbrev pub IsWithin : {A : Type 0} → (A → Type 0) → (A → Type 0) → Type 0
IsWithin {A} P Q = (x : A) → P x → Q x

-- H holds P and, with x, each y to which L leads from x
pub record IsClosedUnder {A : Type 0} (L : A → A → Type 0) (P : A → Type 0) (H : A → Type 0) : Type 0 where
  pub starts : IsWithin P H
  pub follows : (x y : A) → H x → L x y → H y

-- each of x ∷ xs leads to the next, and the last is y
abbrev pub LeadsAlong : {A : Type 0} → (A → A → Type 0) → A → List A → A → Type 0
LeadsAlong L x [] y = x ≡ y
LeadsAlong L x (z ∷ zs) y = L x z × LeadsAlong L z zs y

-- a list that begins in P, ends with y, and has a link from each of its items to the next
pub record Path {A : Type 0} (L : A → A → Type 0) (P : A → Type 0) (y : A) : Type 0 where
  pub first : A
  pub rest : List A
  pub begins : P first
  pub leads : LeadsAlong L first rest y

-- such a list in which no item occurs twice
pub record SimplePath {A : Type 0} (L : A → A → Type 0) (P : A → Type 0) (y : A) : Type 0 where
  pub path : Path L P y
  pub distinct : AllPairs (λ (a b : A). ¬ (a ≡ b)) (path.first ∷ path.rest)

-- any two are equal or not
abbrev pub HasDecidableEquality : Type 0 → Type 0
HasDecidableEquality A = (x y : A) → (x ≡ y) ⊎ ¬ (x ≡ y)
