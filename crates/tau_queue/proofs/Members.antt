-- Elements of lists.
use Rattle.std.proofs.Common.{◌≡◌, ◌⊎◌, inl, inr, ℕ, zero, suc, ◌<◌, Bool, true, false, cond, List, [], ◌∷◌, length, get_or, filter, map, refl, sym, ap, ◌∙◌, subst, arith}
use Rattle.std.specs.List.{Contains}

pub contains_nothing : {X : Type 0} (q : X) → ¬ Contains [] q
contains_nothing q h = omega (arith, h.1)

pub contains_here : {X : Type 0} (x : X) (xs : List X) → Contains (x ∷ xs) x
contains_here x xs = (0, omega arith, refl)

pub contains_there : {X : Type 0} (x q : X) (xs : List X) → Contains xs q → Contains (x ∷ xs) q
contains_there x q xs h = (suc h.0, omega (arith, h.1), h.2)

pub contains_cases : {X : Type 0} (x q : X) (xs : List X) → Contains (x ∷ xs) q → (x ≡ q) ⊎ Contains xs q
contains_cases {X} x q xs h = by h.0 h.1 h.2 where
  by : (k : ℕ) → k < length (x ∷ xs) → get_or (x ∷ xs) k q ≡ q → (x ≡ q) ⊎ Contains xs q
  by zero l e = inl e
  by (suc k) l e = inr (k, omega (arith, l), e)

-- what a filter keeps
keeps : {X : Type 0} (p : X → Bool) (x q : X) (ys : List X) (b : Bool) → p x ≡ b → p q ≡ true → (x ≡ q) ⊎ Contains ys q → Contains (cond b (x ∷ ys) ys) q
keeps {X} p x q ys true e passes (inl same) = subst (λ (y : X). Contains (x ∷ ys) y) same (contains_here x ys)
keeps p x q ys true e passes (inr c) = contains_there x q ys c
keeps p x q ys false e passes (inl same) = let both : false ≡ true = sym e ∙ ap p same ∙ passes in absurd (cc)
keeps p x q ys false e passes (inr c) = c

kept : {X : Type 0} (p : X → Bool) (x q : X) (ys : List X) (b : Bool) → p x ≡ b → Contains (cond b (x ∷ ys) ys) q → ((x ≡ q) × (p q ≡ true)) ⊎ Contains ys q
kept {X} p x q ys true e c = by (contains_cases x q ys c) where
  by : (x ≡ q) ⊎ Contains ys q → ((x ≡ q) × (p q ≡ true)) ⊎ Contains ys q
  by (inl same) = inl (same, sym (ap p same) ∙ e)
  by (inr d) = inr d
kept p x q ys false e c = inr c

rest_of : {X : Type 0} (x q : X) (xs ys : List X) → (Contains xs q → Contains ys q) → Contains (x ∷ xs) q → (x ≡ q) ⊎ Contains ys q
rest_of {X} x q xs ys back h = by (contains_cases x q xs h) where
  by : (x ≡ q) ⊎ Contains xs q → (x ≡ q) ⊎ Contains ys q
  by (inl same) = inl same
  by (inr c) = inr (back c)

pub contains_filter : {X : Type 0} (p : X → Bool) (xs : List X) (q : X) → Contains xs q → p q ≡ true → Contains (filter p xs) q
contains_filter p [] q h passes = absurd (contains_nothing q h)
contains_filter p (x ∷ xs) q h passes = keeps p x q (filter p xs) (p x) refl passes (rest_of x q xs (filter p xs) (λ c. contains_filter p xs q c passes) h)

found : {X : Type 0} (p : X → Bool) (x q : X) (xs ys : List X) → (Contains ys q → Contains xs q × (p q ≡ true)) → ((x ≡ q) × (p q ≡ true)) ⊎ Contains ys q → Contains (x ∷ xs) q × (p q ≡ true)
found {X} p x q xs ys back (inl h) = (subst (λ (y : X). Contains (x ∷ xs) y) h.0 (contains_here x xs), h.1)
found p x q xs ys back (inr c) = let r = back c in (contains_there x q xs r.0, r.1)

pub filter_contains : {X : Type 0} (p : X → Bool) (xs : List X) (q : X) → Contains (filter p xs) q → Contains xs q × (p q ≡ true)
filter_contains p [] q h = absurd (contains_nothing q h)
filter_contains p (x ∷ xs) q h = found p x q xs (filter p xs) (λ c. filter_contains p xs q c) (kept p x q (filter p xs) (p x) refl h)

-- what a map gives
mapped : {X Y : Type 0} (f : X → Y) (x q : X) (ys : List Y) → (x ≡ q) ⊎ Contains ys (f q) → Contains (f x ∷ ys) (f q)
mapped {X} {Y} f x q ys (inl same) = subst (λ (y : Y). Contains (f x ∷ ys) y) (ap f same) (contains_here (f x) ys)
mapped f x q ys (inr c) = contains_there (f x) (f q) ys c

map_or : {X Y : Type 0} (f : X → Y) (x q : X) (xs : List X) → (Contains xs q → Contains (map f xs) (f q)) → Contains (x ∷ xs) q → (x ≡ q) ⊎ Contains (map f xs) (f q)
map_or {X} f x q xs back h = by (contains_cases x q xs h) where
  by : (x ≡ q) ⊎ Contains xs q → (x ≡ q) ⊎ Contains (map f xs) (f q)
  by (inl same) = inl same
  by (inr c) = inr (back c)

pub contains_map : {X Y : Type 0} (f : X → Y) (xs : List X) (q : X) → Contains xs q → Contains (map f xs) (f q)
contains_map f [] q h = absurd (contains_nothing q h)
contains_map f (x ∷ xs) q h = mapped f x q (map f xs) (map_or f x q xs (λ c. contains_map f xs q c) h)

came_from : {X Y : Type 0} (f : X → Y) (x : X) (xs : List X) (y : Y) → (Contains (map f xs) y → (q : X) × Contains xs q × (f q ≡ y)) → (f x ≡ y) ⊎ Contains (map f xs) y → (q : X) × Contains (x ∷ xs) q × (f q ≡ y)
came_from f x xs y back (inl same) = (x, contains_here x xs, same)
came_from f x xs y back (inr c) = let r = back c in (r.0, contains_there x r.0 xs r.1, r.2)

pub map_contains : {X Y : Type 0} (f : X → Y) (xs : List X) (y : Y) → Contains (map f xs) y → (q : X) × Contains xs q × (f q ≡ y)
map_contains f [] y h = absurd (contains_nothing y h)
map_contains f (x ∷ xs) y h = came_from f x xs y (λ c. map_contains f xs y c) (contains_cases (f x) y (map f xs) h)
