-- Facts on the members of a list.
use Rattle.std.proofs.Common.{◌≡◌, ◌<◌, ℕ, suc, zero, List, [], ◌∷◌, ◌++◌, length, get_or, take, drop, refl, sym, arith, inl, inr, ⊎_elim, ◌⊎◌, ◌↔◌, subst}
use Rattle.std.specs.List.{Contains, AllByRecursion}
use Rattle.std.proofs.lemmas.List.{take-append-drop}
use Rattle.std.proofs.lemmas.List.Elements.{Contains-append_left, Contains-append_right, Contains-append_cases, Contains-push, Contains-push_cases, All-from_recursion, All-contains}
use Rattle.tau_points.specs.Members.{AddsAll}

module _ {A : Type 0} where
  pub Contains-head : (x : A) (xs : List A) → Contains (x ∷ xs) x
  Contains-head x xs = (0, omega arith, refl)

  pub Contains-later : (x : A) (xs : List A) (q : A) → Contains xs q → Contains (x ∷ xs) q
  Contains-later x xs q c = (suc c.0, omega (arith, c.1), c.2)

  pub Contains-none : (q : A) → Contains [] q → ⊥
  Contains-none q c = omega (arith, c.1)

  cons_cases : (x : A) (xs : List A) (q : A) (k : ℕ) → k < length (x ∷ xs) → get_or (x ∷ xs) k q ≡ q → (q ≡ x) ⊎ Contains xs q
  cons_cases x xs q zero below e = inl (sym e)
  cons_cases x xs q (suc k) below e = inr (k, omega arith, e)

  pub Contains-cons_cases : (x : A) (xs : List A) (q : A) → Contains (x ∷ xs) q → (q ≡ x) ⊎ Contains xs q
  Contains-cons_cases x xs q c = cons_cases x xs q c.0 c.1 c.2

  pub Contains-take : (i : ℕ) (xs : List A) (q : A) → Contains (take i xs) q → Contains xs q
  Contains-take i xs q c = subst (λ (l : List A). Contains l q) (take-append-drop i xs) (Contains-append_left _ _ q c)

  pub Contains-drop : (i : ℕ) (xs : List A) (q : A) → Contains (drop i xs) q → Contains xs q
  Contains-drop i xs q c = subst (λ (l : List A). Contains l q) (take-append-drop i xs) (Contains-append_right _ _ q c)

  pub Contains-split : (i : ℕ) (xs : List A) (q : A) → Contains xs q → Contains (take i xs) q ⊎ Contains (drop i xs) q
  Contains-split i xs q c = Contains-append_cases (take i xs) (drop i xs) q (subst (λ (l : List A). Contains l q) (sym (take-append-drop i xs)) c)

  module _ (P : A → Type 0) where
    pub all_at : (xs : List A) (x : A) → AllByRecursion P xs → Contains xs x → P x
    all_at xs x all c = All-contains P xs x (All-from_recursion P xs all) c

    pub all_append : (xs ys : List A) → AllByRecursion P xs → AllByRecursion P ys → AllByRecursion P (xs ++ ys)
    all_append [] ys a b = b
    all_append (x ∷ xs) ys a b = (a.0, all_append xs ys a.1 b)

    pub all_front : (xs ys : List A) → AllByRecursion P (xs ++ ys) → AllByRecursion P xs
    all_front [] ys a = tt
    all_front (x ∷ xs) ys a = (a.0, all_front xs ys a.1)

    pub all_back : (xs ys : List A) → AllByRecursion P (xs ++ ys) → AllByRecursion P ys
    all_back [] ys a = a
    all_back (x ∷ xs) ys a = all_back xs ys a.1

  -- two parts of what goes onto a stack, one after the other
  pub AddsAll-then : (P Q : A → Type 0) (xs ys zs : List A) → AddsAll P xs ys → AddsAll Q ys zs → AddsAll (λ q. P q ⊎ Q q) xs zs
  AddsAll-then P Q xs ys zs first second q = (
    λ c. ⊎_elim (λ h. ⊎_elim (λ a. inl a) (λ p. inr (inl p)) ((first q).0 h)) (λ r. inr (inr r)) ((second q).0 c),
    λ c. ⊎_elim (λ h. (second q).1 (inl ((first q).1 (inl h)))) (λ d. ⊎_elim (λ p. (second q).1 (inl ((first q).1 (inr p)))) (λ r. (second q).1 (inr r)) d) c,
  )

  -- one item goes onto it
  pub AddsAll-push : (xs ys : List A) (x : A) → ys ≡ xs ++ x ∷ [] → AddsAll (λ q. q ≡ x) xs ys
  AddsAll-push xs ys x is q = (
    λ c. ⊎_elim (λ h. inl h) (λ (e : x ≡ q). inr (sym e)) (Contains-push_cases xs x q (rw is at c)),
    λ c. rw is (⊎_elim (λ h. Contains-append_left xs (x ∷ []) q h) (λ (e : q ≡ x). subst (λ z. Contains (xs ++ x ∷ []) z) (sym e) (Contains-push xs x)) c),
  )

  -- nothing goes onto it
  pub AddsAll-none : (P : A → Type 0) (xs : List A) → ((q : A) → P q → ⊥) → AddsAll P xs xs
  AddsAll-none P xs none q = (λ c. inl c, λ c. ⊎_elim (λ h. h) (λ p. absurd (none q p)) c)

  -- the same items, said otherwise
  pub AddsAll-same : (P Q : A → Type 0) (xs ys : List A) → ((q : A) → P q ↔ Q q) → AddsAll P xs ys → AddsAll Q xs ys
  AddsAll-same P Q xs ys same adds q = (
    λ c. ⊎_elim (λ h. inl h) (λ p. inr ((same q).0 p)) ((adds q).0 c),
    λ c. (adds q).1 (⊎_elim (λ h. inl h) (λ r. inr ((same q).1 r)) c),
  )
