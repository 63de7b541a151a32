-- What a filter keeps.
use Rattle.std.proofs.Common.{◌≡◌, ◌⊎◌, inl, inr, ⊎_elim, Bool, true, false, cond, List, [], ◌∷◌, length, filter, refl, sym, ap, ◌∙◌, subst, arith}
use Rattle.std.specs.Prelude.{Contains}
use Rattle.std.specs.List.{count_by}
use Rattle.std.proofs.lemmas.List.Elements.{All-filter, All-contains, All-contains_itself}
use Rattle.std.proofs.lemmas.List.Sums.{length-filter, count_by-le-length}
use Rattle.tau_points.proofs.Membership.{Contains-head, Contains-later, Contains-none, Contains-cons_cases}

pub filter_among : {A : Type 0} (p : A → Bool) (xs : List A) (q : A) → Contains (filter p xs) q → Contains xs q
filter_among p xs q c = All-contains (Contains xs) (filter p xs) q (All-filter p (Contains xs) xs (All-contains_itself xs)) c

pub filter_left : {A : Type 0} (p : A → Bool) (xs : List A) (q : A) → Contains xs q → Contains (filter p xs) q ⊎ (p q ≡ false)
filter_left p [] q c = absurd (Contains-none q c)
filter_left {A} p (x ∷ xs) q c = ⊎_elim (λ e. here (p x) refl e) (λ d. there (p x) (filter_left p xs q d)) (Contains-cons_cases x xs q c) where
  here : (b : Bool) → p x ≡ b → q ≡ x → Contains (cond b (x ∷ filter p xs) (filter p xs)) q ⊎ (p q ≡ false)
  here true e same = inl (let F : A → Type 0 = Contains (x ∷ filter p xs) in subst F (sym same) (Contains-head x (filter p xs)))
  here false e same = inr (ap p same ∙ e)

  there : (b : Bool) → Contains (filter p xs) q ⊎ (p q ≡ false) → Contains (cond b (x ∷ filter p xs) (filter p xs)) q ⊎ (p q ≡ false)
  there true (inl d) = inl (Contains-later x (filter p xs) q d)
  there true (inr e) = inr e
  there false d = d

-- where all pass, all stay, and where none passes, none
all_stay : {A : Type 0} (p : A → Bool) (xs : List A) → length (filter p xs) ≡ length xs → filter p xs ≡ xs
all_stay p [] e = refl
all_stay {A} p (x ∷ xs) e = by (p x) (λ f. all_stay p xs f) e where
  by : (b : Bool) → (length (filter p xs) ≡ length xs → filter p xs ≡ xs) → length (cond b (x ∷ filter p xs) (filter p xs)) ≡ length (x ∷ xs) → cond b (x ∷ filter p xs) (filter p xs) ≡ x ∷ xs
  by true rest f = ap (λ ys. x ∷ ys) (rest (omega (arith, f)))
  by false rest f = absurd (omega (arith, f, length-filter p xs, count_by-le-length p xs))

pub filter_all : {A : Type 0} (p : A → Bool) (xs : List A) → count_by p xs ≡ length xs → filter p xs ≡ xs
filter_all p xs e = all_stay p xs (length-filter p xs ∙ e)

pub filter_none : {A : Type 0} (p : A → Bool) (xs : List A) → count_by p xs ≡ 0 → filter p xs ≡ []
filter_none p xs e = none (filter p xs) (length-filter p xs ∙ e) where
  none : {A : Type 0} (ys : List A) → length ys ≡ 0 → ys ≡ []
  none [] f = refl
  none (y ∷ ys) f = absurd (omega (arith, f))
