-- The order of faults at one place, and lists in one order with the same members.
use Rattle.std.proofs.Common.{◌≡◌, ◌↔◌, ⊎_elim, suc, ◌<◌, List, [], ◌∷◌, refl, sym, ◌∙◌, subst, arith}
use Rattle.std.specs.Prelude.{Contains}
use Rattle.std.specs.List.{AllPairs}
use Rattle.tau_points.proofs.Membership.{Contains-head, Contains-later, Contains-none, Contains-cons_cases}
use Rattle.tau_tree.specs.declared.entries.Failure.{Failure}
use Rattle.tau_faults.specs.Faults.{ComesFirst, rank_of, object_of}

module _ {A : Type 0} (R : A → A → Type 0) (once : (x y : A) → R x y → ¬ R y x) where
  pub first_before : (x : A) (xs : List A) (y : A) → AllPairs R (x ∷ xs) → Contains xs y → R x y
  first_before x xs y up c = subst (R x) c.2 (up 0 (suc c.0) y (omega arith) (omega (arith, c.1)))

  pub rest_ordered : (x : A) (xs : List A) → AllPairs R (x ∷ xs) → AllPairs R xs
  rest_ordered x xs up i j d l lt = up (suc i) (suc j) d (omega (arith, l)) (omega (arith, lt))

  same_firsts : (x y : A) (xs ys : List A) → AllPairs R (x ∷ xs) → AllPairs R (y ∷ ys) → ((q : A) → Contains (x ∷ xs) q ↔ Contains (y ∷ ys) q) → x ≡ y
  same_firsts x y xs ys a b h =
      ⊎_elim (λ e. e)
      (λ later. ⊎_elim (λ e. sym e)
      (λ other. absurd (once x y (first_before x xs y a other) (first_before y ys x b later)))
      (Contains-cons_cases x xs y ((h y).1 (Contains-head y ys))))
      (Contains-cons_cases y ys x ((h x).0 (Contains-head x xs)))

  same_rests : (x y : A) (xs ys : List A) → x ≡ y → AllPairs R (x ∷ xs) → ((q : A) → Contains (x ∷ xs) q → Contains (y ∷ ys) q) → (q : A) → Contains xs q → Contains ys q
  same_rests x y xs ys e a h q c =
      ⊎_elim (λ (f : q ≡ y). absurd (let self : R x x = subst (R x) (f ∙ sym e) (first_before x xs q a c) in once x x self self))
      (λ d. d) (Contains-cons_cases y ys q (h q (Contains-later x xs q c)))

  pub same_ordered : (xs ys : List A) → AllPairs R xs → AllPairs R ys → ((q : A) → Contains xs q ↔ Contains ys q) → xs ≡ ys
  same_ordered [] [] a b h = refl
  same_ordered [] (y ∷ ys) a b h = absurd (Contains-none y ((h y).1 (Contains-head y ys)))
  same_ordered (x ∷ xs) [] a b h = absurd (Contains-none x ((h x).0 (Contains-head x xs)))
  same_ordered (x ∷ xs) (y ∷ ys) a b h =
      let e : x ≡ y = same_firsts x y xs ys a b h in
      let rest : xs ≡ ys = same_ordered xs ys (rest_ordered x xs a) (rest_ordered y ys b) (λ q. (same_rests x y xs ys e a (λ p. (h p).0) q, same_rests y x ys xs (sym e) b (λ p. (h p).1) q)) in
      cc

-- of two faults one comes first at most
pub comes_once : (f g : Failure) → ComesFirst f g → ¬ ComesFirst g f
comes_once f g a b =
    ⊎_elim
    (λ (l : rank_of f < rank_of g). ⊎_elim (λ (m : rank_of g < rank_of f). omega (arith, l, m)) (λ (m : (rank_of g ≡ rank_of f) × (object_of g < object_of f)). omega (arith, l, m.0)) b)
    (λ (l : (rank_of f ≡ rank_of g) × (object_of f < object_of g)). ⊎_elim (λ (m : rank_of g < rank_of f). omega (arith, l.0, m)) (λ (m : (rank_of g ≡ rank_of f) × (object_of g < object_of f)). omega (arith, l.1, m.1)) b)
    a
