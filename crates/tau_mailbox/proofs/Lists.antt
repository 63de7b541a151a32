-- `find` and `filter` where the elements that pass are known by their places, and how many pass.
use Rattle.std.proofs.Common.{◌≡◌, ◌≢◌, ℕ, zero, suc, ◌<◌, ◌≤◌, ◌+◌, Bool, true, false, List, [], ◌∷◌, ◌++◌, length, get_or, take, find, filter, remove, slice_get, All, Some, None, refl, ap, arith}
use Rattle.std.proofs.lemmas.List.{length-take}
use Rattle.std.proofs.lemmas.List.Elements.{All-tail}

-- nothing is found where nothing passes
pub find-none : {X : Type 0} (p : X → Bool) (xs : List X) → All (λ x. p x ≡ false) xs → find p xs ≡ None
find-none p [] fails = refl
find-none p (x ∷ xs) fails = rw (fails 0 x (omega arith)) (find-none p xs (All-tail (λ y. p y ≡ false) x xs fails))

-- all are kept where all pass
pub filter-all : {X : Type 0} (p : X → Bool) (xs : List X) → All (λ x. p x ≡ true) xs → filter p xs ≡ xs
filter-all p [] passes = refl
filter-all p (x ∷ xs) passes = rw (passes 0 x (omega arith)) (ap (λ ys. x ∷ ys) (filter-all p xs (All-tail (λ y. p y ≡ true) x xs passes)))

-- the first that passes is found
pub find-first : {X : Type 0} (p : X → Bool) (xs : List X) (i : ℕ) (d : X) → i < length xs → p (get_or xs i d) ≡ true → ((j : ℕ) → j < i → p (get_or xs j d) ≡ false) → find p xs ≡ Some (get_or xs i d)
find-first p [] i d lt passed before = absurd (omega (arith, lt))
find-first p (x ∷ xs) zero d lt passed before = rw passed refl
find-first p (x ∷ xs) (suc i) d lt passed before = rw (before 0 (omega arith)) (find-first p xs i d (omega (arith, lt)) passed (λ j h. before (suc j) (omega (arith, h))))

-- where just the one at place i fails, the others are kept
pub filter-one : {X : Type 0} (p : X → Bool) (xs : List X) (i : ℕ) → i < length xs → ((d : X) → p (get_or xs i d) ≡ false) → ((j : ℕ) (d : X) → j ≢ i → j < length xs → p (get_or xs j d) ≡ true) → filter p xs ≡ remove xs i
filter-one p [] i lt failed others = absurd (omega (arith, lt))
filter-one p (x ∷ xs) zero lt failed others = rw (failed x) (filter-all p xs (λ k d h. others (suc k) d (λ e. absurd (omega (arith, e))) (omega (arith, h))))
filter-one p (x ∷ xs) (suc i) lt failed others = rw (others 0 x (λ e. absurd (omega (arith, e))) (omega arith)) (ap (λ ys. x ∷ ys) (filter-one p xs i (omega (arith, lt)) failed (λ j d ne h. others (suc j) d (λ e. ne (omega (arith, e))) (omega (arith, h)))))

-- a filter of a filter, in either order
pub filter-comm : {X : Type 0} (p q : X → Bool) (xs : List X) → filter p (filter q xs) ≡ filter q (filter p xs)
filter-comm p q [] = refl
filter-comm p q (x ∷ xs) = grind (arith, filter-comm p q xs)

-- an element that fails makes no difference to a filter
pub filter-without : {X : Type 0} (p : X → Bool) (xs : List X) (y : X) (ys : List X) → p y ≡ false → filter p (xs ++ y ∷ ys) ≡ filter p (xs ++ ys)
filter-without p [] y ys failed = rw failed refl
filter-without p (x ∷ xs) y ys failed = rw (filter-without p xs y ys failed) refl

-- where none of xs passes, the search may begin after them
pub find-append : {X : Type 0} (p : X → Bool) (xs ys : List X) → All (λ x. p x ≡ false) xs → find p (xs ++ ys) ≡ find p ys
find-append p [] ys fails = refl
find-append p (x ∷ xs) ys fails = rw (fails 0 x (omega arith)) (find-append p xs ys (All-tail (λ y. p y ≡ false) x xs fails))

-- nothing is kept where nothing passes
pub filter-none : {X : Type 0} (p : X → Bool) (xs : List X) → All (λ x. p x ≡ false) xs → filter p xs ≡ []
filter-none p [] fails = refl
filter-none p (x ∷ xs) fails = rw (fails 0 x (omega arith)) (filter-none p xs (All-tail (λ y. p y ≡ false) x xs fails))

-- where just the first k pass, they are kept
pub filter-front : {X : Type 0} (p : X → Bool) (xs : List X) (k : ℕ) → k ≤ length xs → ((j : ℕ) (d : X) → j < k → p (get_or xs j d) ≡ true) → ((j : ℕ) (d : X) → k ≤ j → j < length xs → p (get_or xs j d) ≡ false) → filter p xs ≡ take k xs
filter-front p xs zero within before after = filter-none p xs (λ j d lt. after j d (omega arith) lt)
filter-front p [] (suc k) within before after = absurd (omega (arith, within))
filter-front p (x ∷ xs) (suc k) within before after = rw (before 0 x (omega arith)) (ap (λ ys. x ∷ ys) (filter-front p xs k (omega (arith, within)) (λ j d h. before (suc j) d (omega (arith, h))) (λ j d h lt. after (suc j) d (omega (arith, h)) (omega (arith, lt)))))

-- the first that is kept is the first that is found
pub find-filter : {X : Type 0} (p : X → Bool) (xs : List X) → find p xs ≡ slice_get (filter p xs) 0
find-filter p [] = refl
find-filter p (x ∷ xs) = by (p x) refl (find-filter p xs)
  where
    by : (b : Bool) → p x ≡ b → find p xs ≡ slice_get (filter p xs) 0 → find p (x ∷ xs) ≡ slice_get (filter p (x ∷ xs)) 0
    by true t later = rw t refl
    by false t later = rw t later

-- no more pass than there are
pub length-filter-le : {X : Type 0} (p : X → Bool) (xs : List X) → length (filter p xs) ≤ length xs
length-filter-le p [] = omega arith
length-filter-le p (x ∷ xs) = by (p x) refl (length-filter-le p xs)
  where
    by : (b : Bool) → p x ≡ b → length (filter p xs) ≤ length xs → length (filter p (x ∷ xs)) ≤ suc (length xs)
    by true t h = rw t (omega (arith, h))
    by false t h = rw t (omega (arith, h))

-- among m elements more, at most m more pass
pub filter-take-le : {X : Type 0} (p : X → Bool) (xs : List X) (i j m : ℕ) → i ≤ j + m → length (filter p (take i xs)) ≤ length (filter p (take j xs)) + m
filter-take-le p xs zero j m h = omega arith
filter-take-le p [] (suc i) j m h = omega arith
filter-take-le p (x ∷ xs) (suc i) zero m h = omega (arith, h, length-filter-le p (x ∷ take i xs), length-take i xs)
filter-take-le p (x ∷ xs) (suc i) (suc j) m h = by (p x) refl (filter-take-le p xs i j m (omega (arith, h)))
  where
    by : (b : Bool) → p x ≡ b → length (filter p (take i xs)) ≤ length (filter p (take j xs)) + m → length (filter p (x ∷ take i xs)) ≤ length (filter p (x ∷ take j xs)) + m
    by true t later = rw t (omega (arith, later))
    by false t later = rw t later

-- the element at place i is the one with the number k of those that pass, where k of them stand before it and it passes
pub nth-filter : {X : Type 0} (p : X → Bool) (xs : List X) (i k : ℕ) → length (filter p (take i xs)) ≤ k → k < length (filter p (take (suc i) xs)) → slice_get (filter p xs) k ≡ slice_get xs i
nth-filter p [] i k before through = absurd (omega (arith, through))
nth-filter p (x ∷ xs) zero k before through = by (p x) refl
  where
    by : (b : Bool) → p x ≡ b → slice_get (filter p (x ∷ xs)) k ≡ Some x
    by true t = let first : k ≡ 0 = (let h = rw t at through in omega (arith, h)) in rw (t, first) refl
    by false t = absurd (let h = rw t at through in omega (arith, h))
nth-filter p (x ∷ xs) (suc i) k before through = by (p x) refl (λ n. nth-filter p xs i n) k before through
  where
    by : (b : Bool) → p x ≡ b → ((n : ℕ) → length (filter p (take i xs)) ≤ n → n < length (filter p (take (suc i) xs)) → slice_get (filter p xs) n ≡ slice_get xs i)
        → (n : ℕ) → length (filter p (x ∷ take i xs)) ≤ n → n < length (filter p (x ∷ take (suc i) xs)) → slice_get (filter p (x ∷ xs)) n ≡ slice_get xs i
    by true t later zero b h = absurd (let e = rw t at b in omega (arith, e))
    by true t later (suc n) b h = rw t (later n (let e = rw t at b in omega (arith, e)) (let e = rw t at h in omega (arith, e)))
    by false t later n b h = rw t (later n (rw t at b) (rw t at h))
