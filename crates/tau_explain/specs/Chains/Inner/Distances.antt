-- How many links it takes from points to a set.
use Rattle.std.specs.Prelude.{◌≡◌, ◌⊎◌, ◌≤◌, ◌<◌, ℕ, suc, List, [], ◌∷◌, Option, Some, None, Bool, ◌&&◌, nat_eq, nat_lt, if◌then◌else◌}
use Rattle.tau_points.specs.declared.point.Point.{Point}
use Rattle.tau_explain.specs.Chains.Chains.{IsNotAfter}

-- only equal points
abbrev pub same_point : Point → Point → Bool
same_point p q = nat_eq p.who q.who && (nat_eq p.interval q.interval && nat_eq p.incarnation q.incarnation)

-- far tells for each point how many links it takes at least to a point of C, and None where none is reached
pub record IsFar (L : Point → Point → Type 0) (C : Point → Type 0) (far : Point → Option ℕ) : Type 0 where
  pub here : (p : Point) → C p → far p ≡ Some 0
  pub ends : (p : Point) → far p ≡ Some 0 → C p
  pub on : (p : Point) (n : ℕ) → far p ≡ Some (suc n) → (q : Point) × L p q × (far q ≡ Some n)
  pub near : (p q : Point) (n : ℕ) → L p q → far q ≡ Some n → (m : ℕ) × (far p ≡ Some m) × (m ≤ suc n)

-- q is the least of the points to which p leads and that are one link nearer
pub record IsNext (L : Point → Point → Type 0) (far : Point → Option ℕ) (p q : Point) (n : ℕ) : Type 0 where
  pub from : far p ≡ Some (suc n)
  pub leads : L p q
  pub nearer : far q ≡ Some n
  pub least : (r : Point) → L p r → far r ≡ Some n → IsNotAfter q r

-- each point goes on to its next, from x by the points of the list to y
abbrev pub GoesOn : (Point → Point → Type 0) → (Point → Option ℕ) → Point → List Point → Point → Type 0
GoesOn L far x [] y = x ≡ y
GoesOn L far x (z ∷ zs) y = ((n : ℕ) × IsNext L far x z n) × GoesOn L far z zs y

-- the nearest point of S, the least of equally near ones; None where none has a distance
pub record IsNearest (S : Point → Type 0) (far : Point → Option ℕ) (p : Point) (n : ℕ) : Type 0 where
  pub begins : S p
  pub at : far p ≡ Some n
  pub best : (q : Point) (m : ℕ) → S q → far q ≡ Some m → (n < m) ⊎ ((n ≡ m) × IsNotAfter p q)

abbrev pub IsNearestOf : (Point → Type 0) → (Point → Option ℕ) → Option (Point × ℕ) → Type 0
IsNearestOf S far None = (q : Point) → S q → far q ≡ None
IsNearestOf S far (Some x) = IsNearest S far x.0 x.1

-- the second where it is nearer, or the first has none
abbrev pub nearer_of : Option (Point × ℕ) → Point → Option ℕ → Option (Point × ℕ)
nearer_of x p None = x
nearer_of None p (Some m) = Some (p, m)
nearer_of (Some x) p (Some m) = if nat_lt m x.1 then Some (p, m) else Some x

-- the least point of S at distance n; None where none is
abbrev pub IsLeastAt : (Point → Type 0) → (Point → Option ℕ) → ℕ → Option Point → Type 0
IsLeastAt S far n None = (q : Point) → S q → far q ≡ Some n → ⊥
IsLeastAt S far n (Some p) = S p × (far p ≡ Some n) × ((q : Point) → S q → far q ≡ Some n → IsNotAfter p q)

-- p leads to a point at distance n
abbrev pub HasNearer : (Point → Point → Type 0) → (Point → Option ℕ) → Point → ℕ → Type 0
HasNearer L far p n = (q : Point) × L p q × (far q ≡ Some n)

-- each point but those of the set leads to one that is one link nearer
abbrev pub LeadsNearer : (Point → Point → Type 0) → (Point → Option ℕ) → Type 0
LeadsNearer L far = (p : Point) (n : ℕ) → far p ≡ Some (suc n) → HasNearer L far p n

-- the list goes on from x to last
pub record GoesTo (L : Point → Point → Type 0) (far : Point → Option ℕ) (x : Point) (points : List Point) (last : Point) : Type 0 where
  pub rest : List Point
  pub is : points ≡ x ∷ rest
  pub goes : GoesOn L far x rest last

-- the list goes on from x down to the set
pub record GoesDown (L : Point → Point → Type 0) (far : Point → Option ℕ) (x : Point) (points : List Point) : Type 0 where
  pub last : Point
  pub goes : GoesTo L far x points last
  pub ends : far last ≡ Some 0
