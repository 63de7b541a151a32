-- The laws of what is reached, for a relation L and a set P of any carrier A.
use Rattle.std.specs.Prelude.{◌↔◌, ◌⊎◌}
use Rattle.tau_points.specs.Reach.{Reach, IsWithin, IsClosedUnder, Path, SimplePath, HasDecidableEquality}

module _ {A : Type 0} where
  -- what is reached lies in each closed set
  abbrev pub IsLeast : (A → A → Type 0) → (A → Type 0) → (A → Type 0) → Type 0
  IsLeast L P H = IsClosedUnder L P H → IsWithin (Reach L P) H

  -- more links and more starts reach more
  abbrev pub IsMonotone : (A → A → Type 0) → (A → A → Type 0) → (A → Type 0) → (A → Type 0) → Type 0
  IsMonotone L M P Q = ((x y : A) → L x y → M x y) → IsWithin P Q → IsWithin (Reach L P) (Reach M Q)

  -- from two sets together the same is reached as from each of them
  abbrev pub ReachesUnion : (A → A → Type 0) → (A → Type 0) → (A → Type 0) → Type 0
  ReachesUnion L P Q = (x : A) → Reach L (λ z. P z ⊎ Q z) x ↔ (Reach L P x ⊎ Reach L Q x)

  -- from what is reached nothing more is reached
  abbrev pub IsNested : (A → A → Type 0) → (A → Type 0) → (A → Type 0) → Type 0
  IsNested L P Q = IsWithin Q (Reach L P) → IsWithin (Reach L Q) (Reach L P)

  -- in a set H that is closed under L, links that are the same from its members reach the same, and all of it is in H
  abbrev pub IsRestricted : (A → A → Type 0) → (A → A → Type 0) → (A → Type 0) → (A → Type 0) → Type 0
  IsRestricted L M P H = IsClosedUnder L P H → ((x y : A) → H x → (L x y ↔ M x y)) → (x : A) → (Reach L P x ↔ Reach M P x) × (Reach L P x → H x)

  -- a point is reached where a path leads to it
  abbrev pub IsReachedByPath : (A → A → Type 0) → (A → Type 0) → Type 0
  IsReachedByPath L P = (y : A) → Reach L P y ↔ Path L P y

  -- and then, where equality is decidable, a path on which no point occurs twice
  abbrev pub IsReachedBySimplePath : (A → A → Type 0) → (A → Type 0) → Type 0
  IsReachedBySimplePath L P = HasDecidableEquality A → (y : A) → Reach L P y ↔ SimplePath L P y
