-- Numbers of a list by their places, and fronts of lists.
use Rattle.std.proofs.Common.{◌≡◌, ℕ, zero, suc, ◌+◌, ◌-◌, ◌<◌, ◌≤◌, List, [], ◌∷◌, ◌++◌, length, take, Some, refl, sym, ap, ◌∙◌, subst, length-append, arith}
use Rattle.std.specs.Prelude.{slice_get}
use Rattle.std.proofs.lemmas.List.{take-take, take-append-le}
use Rattle.tau_history.specs.Closed.{IsFront}

pub slice_get-append : (xs ys : List ℕ) (i : ℕ) → i < length xs → slice_get (xs ++ ys) i ≡ slice_get xs i
slice_get-append [] ys i h = absurd (omega arith)
slice_get-append (x ∷ xs) ys zero h = refl
slice_get-append (x ∷ xs) ys (suc i) h = slice_get-append xs ys i (omega arith)

pub slice_get-seam : (xs : List ℕ) (n : ℕ) (ys : List ℕ) → slice_get (xs ++ n ∷ ys) (length xs) ≡ Some n
slice_get-seam [] n ys = refl
slice_get-seam (x ∷ xs) n ys = slice_get-seam xs n ys

-- equal lists fall apart into equal parts
pub parts_of : (xs ys us vs : List ℕ) → length us ≡ length vs → xs ++ us ≡ ys ++ vs → (xs ≡ ys) × (us ≡ vs)
parts_of [] [] us vs h e = (refl, e)
parts_of [] (y ∷ ys) us vs h e = absurd (omega (arith, ap length e, length-append (y ∷ ys) vs))
parts_of (x ∷ xs) [] us vs h e = absurd (omega (arith, ap length e, length-append (x ∷ xs) us))
parts_of (x ∷ xs) (y ∷ ys) us vs h e =
    let rest : xs ++ us ≡ ys ++ vs = cc in
    let p = parts_of xs ys us vs h rest in
    let first : x ≡ y = cc in
    ((λ i. first i ∷ p.0 i), p.1)

pub take-front : (xs ys : List ℕ) (n : ℕ) → IsFront xs ys → n ≤ length xs → take n xs ≡ take n ys
take-front xs ys n f h = ap (take n) f.is ∙ take-take n (length xs) ys h

-- the first n numbers stand in the first part of the list
pub take-part : (xs part rest : List ℕ) (n : ℕ) → part ++ rest ≡ xs → n ≤ length part → take n xs ≡ take n part
take-part xs part rest n e h = ap (take n) (sym e) ∙ take-append-le n part rest h

take-suc-get : (xs : List ℕ) (k n : ℕ) → slice_get xs k ≡ Some n → take (suc k) xs ≡ take k xs ++ n ∷ []
take-suc-get [] k n e = cc
take-suc-get (x ∷ xs) zero n e = let h : x ≡ n = cc in λ i. h i ∷ []
take-suc-get (x ∷ xs) (suc k) n e = ap (λ ys. x ∷ ys) (take-suc-get xs k n e)

-- fronts that agree, and the next number too
pub take-more_alike : (xs ys : List ℕ) (k n m : ℕ) → slice_get xs k ≡ Some n → slice_get ys k ≡ Some m → n ≡ m → take k xs ≡ take k ys → take (k + 1) xs ≡ take (k + 1) ys
take-more_alike xs ys k n m d e f g =
    let one : k + 1 ≡ suc k = omega arith in
    ap (λ j. take j xs) one ∙ take-suc-get xs k n d ∙ (λ i. g i ++ f i ∷ []) ∙ sym (take-suc-get ys k m e) ∙ ap (λ j. take j ys) (sym one)

pub front_along : {xs xs' ys ys' : List ℕ} → xs ≡ xs' → ys ≡ ys' → IsFront xs ys → IsFront xs' ys'
front_along {xs} {xs'} {ys} {ys'} e f p = subst (λ zs. IsFront zs ys') e (subst (IsFront xs) f p)
