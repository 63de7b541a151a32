-- How the members of two lists differ.
use Rattle.std.specs.Prelude.{◌≡◌, ◌↔◌, ◌⊎◌, ℕ, List, length, Contains}
use Rattle.std.specs.List.{AllWithin}
use Rattle.std.specs.declared.cmp.Ordering.{Ordering}
use Rattle.std.specs.declared.cmp.Ordering.TheVariants.{Less}

-- new has the members of old, and x
abbrev pub Adds : {A : Type 0} → List A → List A → A → Type 0
Adds {A} old new x = (q : A) → Contains new q ↔ (Contains old q ⊎ (q ≡ x))

-- new has the members of both lists
abbrev pub Joins : {A : Type 0} → List A → List A → List A → Type 0
Joins {A} xs ys new = (q : A) → Contains new q ↔ (Contains xs q ⊎ Contains ys q)

-- new has the members of old, and each x of P
abbrev pub AddsAll : {A : Type 0} → (A → Type 0) → List A → List A → Type 0
AddsAll {A} P old new = (q : A) → Contains new q ↔ (Contains old q ⊎ P q)

-- xs has every member of ys
abbrev pub HasAll : {A : Type 0} → List A → List A → Type 0
HasAll {A} xs ys = (q : A) → Contains ys q → Contains xs q

-- both lists have the same members
abbrev pub SameMembers : {A : Type 0} → List A → List A → Type 0
SameMembers {A} xs ys = (q : A) → Contains xs q ↔ Contains ys q

-- every item of xs below position i is before x, and x is before every other
pub record IsPlace {A : Type 0} (cmp : A → A → Ordering) (x : A) (xs : List A) (i : ℕ) : Type 0 where
  pub before : AllWithin (λ y. cmp y x ≡ Less) xs 0 i
  pub after : AllWithin (λ y. cmp x y ≡ Less) xs i (length xs)
