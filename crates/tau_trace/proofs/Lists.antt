-- Elements of a list by their places, after a write or a push.
use Rattle.std.proofs.Common.{◌≡◌, ◌≢◌, ◌⊎◌, inl, inr, ⊎_elim, ℕ, zero, suc, ◌<◌, ◌≤◌, ◌+◌, List, [], ◌∷◌, ◌++◌, length, take, set, Option, Some, None, refl, sym, ap, ◌∙◌, arith}
use Rattle.std.specs.Prelude.{slice_get}

pub same_some : {A : Type 0} {x y : A} → Some x ≡ Some y → x ≡ y
same_some e = cc

module _ {A : Type 0} where
  pub slice_get-set_same : (xs : List A) (i : ℕ) (v : A) → i < length xs → slice_get (set xs i v) i ≡ Some v
  slice_get-set_same [] i v l = absurd (omega arith)
  slice_get-set_same (x ∷ xs) zero v l = refl
  slice_get-set_same (x ∷ xs) (suc i) v l = slice_get-set_same xs i v (omega arith)

  pub slice_get-set_other : (xs : List A) (i j : ℕ) (v : A) → j ≢ i → slice_get (set xs i v) j ≡ slice_get xs j
  slice_get-set_other [] i j v ne = refl
  slice_get-set_other (x ∷ xs) zero zero v ne = absurd (ne refl)
  slice_get-set_other (x ∷ xs) zero (suc j) v ne = refl
  slice_get-set_other (x ∷ xs) (suc i) zero v ne = refl
  slice_get-set_other (x ∷ xs) (suc i) (suc j) v ne = slice_get-set_other xs i j v (λ e. ne (ap suc e))

  pub slice_get-front : (xs : List A) (y : A) (j : ℕ) → j < length xs → slice_get xs j ≡ slice_get (xs ++ y ∷ []) j
  slice_get-front [] y j l = absurd (omega arith)
  slice_get-front (x ∷ xs) y zero l = refl
  slice_get-front (x ∷ xs) y (suc j) l = slice_get-front xs y j (omega arith)

  pub slice_get-last : (xs : List A) (y : A) → slice_get (xs ++ y ∷ []) (length xs) ≡ Some y
  slice_get-last [] y = refl
  slice_get-last (x ∷ xs) y = slice_get-last xs y

  -- an element of a list with one more is one of the list, or the new one
  pub slice_get-push_cases : (xs : List A) (y z : A) (j : ℕ) → slice_get (xs ++ y ∷ []) j ≡ Some z → (slice_get xs j ≡ Some z) ⊎ ((j ≡ length xs) × (y ≡ z))
  slice_get-push_cases [] y z zero e = inr (refl, same_some e)
  slice_get-push_cases [] y z (suc j) e = absurd (cc)
  slice_get-push_cases (x ∷ xs) y z zero e = inl e
  slice_get-push_cases (x ∷ xs) y z (suc j) e = ⊎_elim (λ a. inl a) (λ b. inr (ap suc b.0, b.1)) (slice_get-push_cases xs y z j e)

  pub slice_get-take : (n : ℕ) (xs : List A) (i : ℕ) → i < n → slice_get (take n xs) i ≡ slice_get xs i
  slice_get-take zero xs i h = absurd (omega arith)
  slice_get-take (suc n) [] i h = refl
  slice_get-take (suc n) (x ∷ xs) zero h = refl
  slice_get-take (suc n) (x ∷ xs) (suc i) h = slice_get-take n xs i (omega arith)
