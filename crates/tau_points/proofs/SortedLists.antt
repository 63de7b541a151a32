-- Facts on lists in which each item is before all later ones.
use Rattle.std.proofs.Common.{◌≡◌, ◌-◌, ◌<◌, ◌≤◌, ◌+◌, ℕ, suc, zero, List, [], ◌∷◌, ◌++◌, length, get_or, take, drop, refl, sym, ap, ◌∙◌, arith, inl, inr, ⊎_elim, ◌⊎◌, ◌↔◌, subst, append_assoc, Ok, Err, Result, Bool, false, add-one, drop-cons, length-drop, ap₂}
use Rattle.std.proofs.lemmas.List.{take_more, take_all, drop_all, append-nil}
use Rattle.std.specs.List.{Contains, AllByRecursion, AllWithin, dedup}
use Rattle.std.specs.List.Sorted.{IsStrictlySortedBy, IsBinarySearchResult, IsSearchInRange, IsSortedBy, IsPermutation}
use Rattle.std.specs.Result.{OnOk, IfErr}
use Rattle.std.proofs.lemmas.Map.Lookups.{CmpEqualImpliesEq}
use Rattle.std.proofs.lemmas.Map.Views.{tells_apart}
use Rattle.std.proofs.lemmas.List.Kept.{Contains-dedup, Contains-from_dedup}
use Rattle.std.specs.Cmp.{IsTotalOrder, IsEquivalence}
use Rattle.std.specs.Ordering.{ordering_reverse, is_lt, eq_by_cmp}
use Rattle.std.specs.declared.cmp.Ordering.{Ordering}
use Rattle.std.specs.declared.cmp.Ordering.TheVariants.{Less, Greater}
use Rattle.std.proofs.lemmas.Cmp.{tied_itself}
use Rattle.std.proofs.lemmas.Map.Keys.{Less-from_sorted}
use Rattle.std.proofs.lemmas.List.Sorted.{searchable_from_sorted, Contains-permutation, IsPermutation-sym}
use Rattle.std.proofs.lemmas.List.Elements.{Contains-append_left, Contains-append_right, Contains-append_cases}
use Rattle.tau_points.specs.Members.{Adds, Joins, HasAll, SameMembers, IsPlace}
use Rattle.tau_points.proofs.Membership.{Contains-head, Contains-later, Contains-none, Contains-cons_cases, Contains-take, Contains-drop, Contains-split, all_at, all_append, all_front, all_back}

module _ {K : Type 0} (R : K → K → Ordering) where
  pub sorted_nil : IsStrictlySortedBy R []
  unfolding IsStrictlySortedBy
  sorted_nil = tt

  pub sorted_cons : (x : K) (xs : List K) → AllByRecursion (λ y. R x y ≡ Less) xs → IsStrictlySortedBy R xs → IsStrictlySortedBy R (x ∷ xs)
  unfolding IsStrictlySortedBy
  sorted_cons x xs above s = (above, s)

  pub sorted_above : (x : K) (xs : List K) → IsStrictlySortedBy R (x ∷ xs) → AllByRecursion (λ y. R x y ≡ Less) xs
  unfolding IsStrictlySortedBy
  sorted_above x xs s = s.0

  pub sorted_rest : (x : K) (xs : List K) → IsStrictlySortedBy R (x ∷ xs) → IsStrictlySortedBy R xs
  unfolding IsStrictlySortedBy
  sorted_rest x xs s = s.1

module _ {K : Type 0} {R : K → K → Ordering} (o : IsTotalOrder R) where
  pub not_below_itself : (x : K) → R x x ≡ Less → ⊥
  not_below_itself x e = cc (tied_itself o x)

  pub flips : (x y : K) → R x y ≡ Greater → R y x ≡ Less
  flips x y e = o.antisymm y x ∙ ap ordering_reverse e

  pub not_both : (x y : K) → R x y ≡ Less → R y x ≡ Less → ⊥
  not_both x y e f = not_below_itself x (o.trans x y x e f)

  below_all : (x y : K) (ys : List K) → R x y ≡ Less → AllByRecursion (λ z. R y z ≡ Less) ys → AllByRecursion (λ z. R x z ≡ Less) ys
  below_all x y [] e above = tt
  below_all x y (z ∷ zs) e above = (o.trans x y z e above.0, below_all x y zs e above.1)

  -- two lists with the same members are one list
  same_heads : (x y : K) (xs ys : List K) → IsStrictlySortedBy R (x ∷ xs) → IsStrictlySortedBy R (y ∷ ys) → ((q : K) → Contains (x ∷ xs) q ↔ Contains (y ∷ ys) q) → x ≡ y
  same_heads x y xs ys s t h =
      ⊎_elim (λ e. e)
      (λ later. ⊎_elim (λ e. sym e)
      (λ other. absurd (not_both x y (all_at (λ z. R x z ≡ Less) xs y (sorted_above R x xs s) other) (all_at (λ z. R y z ≡ Less) ys x (sorted_above R y ys t) later)))
      (Contains-cons_cases x xs y ((h y).1 (Contains-head y ys))))
      (Contains-cons_cases y ys x ((h x).0 (Contains-head x xs)))

  same_tails : (x y : K) (xs ys : List K) → x ≡ y → IsStrictlySortedBy R (x ∷ xs) → ((q : K) → Contains (x ∷ xs) q → Contains (y ∷ ys) q) → (q : K) → Contains xs q → Contains ys q
  same_tails x y xs ys e s h q c =
      ⊎_elim (λ (f : q ≡ y). absurd (not_below_itself x (subst (λ z. R x z ≡ Less) (f ∙ sym e) (all_at (λ z. R x z ≡ Less) xs q (sorted_above R x xs s) c))))
      (λ d. d) (Contains-cons_cases y ys q (h q (Contains-later x xs q c)))

  pub same_list : (xs ys : List K) → IsStrictlySortedBy R xs → IsStrictlySortedBy R ys → ((q : K) → Contains xs q ↔ Contains ys q) → xs ≡ ys
  same_list [] [] s t h = refl
  same_list [] (y ∷ ys) s t h = absurd (Contains-none y ((h y).1 (Contains-head y ys)))
  same_list (x ∷ xs) [] s t h = absurd (Contains-none x ((h x).0 (Contains-head x xs)))
  same_list (x ∷ xs) (y ∷ ys) s t h =
      let e : x ≡ y = same_heads x y xs ys s t h in
      let rest : xs ≡ ys = same_list xs ys (sorted_rest R x xs s) (sorted_rest R y ys t) (λ q. (same_tails x y xs ys e s (λ p. (h p).0) q, same_tails y x ys xs (sym e) t (λ p. (h p).1) q)) in
      cc

  -- an item at its place
  pub sorted_place : (x : K) (xs : List K) (i : ℕ) → i ≤ length xs → IsStrictlySortedBy R xs → AllWithin (λ y. R y x ≡ Less) xs 0 i → AllWithin (λ y. R x y ≡ Less) xs i (length xs) → IsStrictlySortedBy R (take i xs ++ x ∷ drop i xs)
  sorted_place x [] zero n s before after = sorted_cons R x [] tt (sorted_nil R)
  sorted_place x [] (suc i) n s before after = absurd (omega arith)
  sorted_place x (y ∷ ys) zero n s before after =
      let e : R x y ≡ Less = after 0 y (omega arith) (omega arith) in
      sorted_cons R x (y ∷ ys) (e, below_all x y ys e (sorted_above R y ys s)) s
  sorted_place x (y ∷ ys) (suc i) n s before after =
      let e : R y x ≡ Less = before 0 y (omega arith) (omega arith) in
      let above = subst (λ (l : List K). AllByRecursion (λ z. R y z ≡ Less) l) (sym (Rattle.std.proofs.lemmas.List.take-append-drop i ys)) (sorted_above R y ys s) in
      sorted_cons R y (take i ys ++ x ∷ drop i ys)
      (all_append (λ z. R y z ≡ Less) (take i ys) (x ∷ drop i ys) (all_front (λ z. R y z ≡ Less) (take i ys) (drop i ys) above) (e, all_back (λ z. R y z ≡ Less) (take i ys) (drop i ys) above))
      (sorted_place x ys i (omega arith) (sorted_rest R y ys s) (λ k d low high. before (suc k) d (omega arith) (omega arith)) (λ k d low high. after (suc k) d (omega arith) (omega arith)))

  -- what a binary search says of such a list
  falls_not : (x y : K) → R x y ≡ Less → is_lt (R y x) ≡ false
  falls_not x y e = ap is_lt (o.antisymm y x ∙ ap ordering_reverse e)

  pub sorted_weakly : (xs : List K) → IsStrictlySortedBy R xs → IsSortedBy (λ a b. is_lt (R a b)) xs
  sorted_weakly xs s k d low high = falls_not (get_or xs k d) (get_or xs (k + 1) d) (Less-from_sorted R xs k (k + 1) d s (omega arith) high)

  pub place_of : (x : K) (xs : List K) (i : ℕ) → IsStrictlySortedBy R xs → IsBinarySearchResult (λ y. R y x) xs (Err i) → IsPlace R x xs i
  place_of x xs i s found =
      let parts = found (searchable_from_sorted o (λ y. y) xs x (sorted_weakly xs s)) in
      record { before = parts.0; after = λ k d low high. flips (get_or xs k d) x (parts.1 k d low high) }

pub Adds-place : {K : Type 0} (x : K) (xs : List K) (i : ℕ) → Adds xs (take i xs ++ x ∷ drop i xs) x
Adds-place x xs i q = (
  λ c. ⊎_elim (λ front. inl (Contains-take i xs q front))
      (λ back. ⊎_elim (λ e. inr e) (λ rest. inl (Contains-drop i xs q rest)) (Contains-cons_cases x (drop i xs) q back))
      (Contains-append_cases (take i xs) (x ∷ drop i xs) q c),
  λ c. ⊎_elim (λ old. ⊎_elim (λ front. Contains-append_left (take i xs) (x ∷ drop i xs) q front)
      (λ back. Contains-append_right (take i xs) (x ∷ drop i xs) q (Contains-later x (drop i xs) q back))
      (Contains-split i xs q old))
      (λ (e : q ≡ x). Contains-append_right (take i xs) (x ∷ drop i xs) q (subst (λ z. Contains (x ∷ drop i xs) z) (sym e) (Contains-head x (drop i xs)))) c,
)

module _ {K : Type 0} {R : K → K → Ordering} where
  pub OnOk-found : CmpEqualImpliesEq R → (x : K) (xs : List K) (r : Result ℕ ℕ) → IsSearchInRange r (length xs) → IsBinarySearchResult (λ y. R y x) xs r → OnOk r (Contains xs x)
  OnOk-found exact x xs (Ok i) within found = (i, within, exact (get_or xs i x) x (found x))
  OnOk-found exact x xs (Err i) within found = tt

  pub IfErr-place : IsTotalOrder R → (x : K) (xs : List K) → IsStrictlySortedBy R xs → (r : Result ℕ ℕ) → IsBinarySearchResult (λ y. R y x) xs r → IfErr r (IsPlace R x xs)
  IfErr-place o x xs s (Ok i) found = tt
  IfErr-place o x xs s (Err i) found = place_of o x xs i s found

-- the items at i and j are u and t
pub record At {K : Type 0} (xs ys : List K) (i j : ℕ) (u t : K) : Type 0 where
  pub first_in : i < length xs
  pub second_in : j < length ys
  pub first_is : u ≡ get_or xs i u
  pub second_is : t ≡ get_or ys j t

-- while xs and ys are merged: out is done, and us and ts are left of them
pub record Merging {K : Type 0} (R : K → K → Ordering) (xs ys out us ts : List K) : Type 0 where
  pub first : IsStrictlySortedBy R (out ++ us)
  pub second : IsStrictlySortedBy R (out ++ ts)
  pub whole : (q : K) → (Contains (out ++ us) q ⊎ Contains (out ++ ts) q) ↔ (Contains xs q ⊎ Contains ys q)

module _ {K : Type 0} {R : K → K → Ordering} (o : IsTotalOrder R) where
  -- u goes between out and t
  sorted_between : (out : List K) (u t : K) (us ts : List K) → IsStrictlySortedBy R (out ++ u ∷ us) → IsStrictlySortedBy R (out ++ t ∷ ts) → R u t ≡ Less → IsStrictlySortedBy R (out ++ u ∷ t ∷ ts)
  sorted_between [] u t us ts s f e = sorted_cons R u (t ∷ ts) (e, below_all o u t ts e (sorted_above R t ts f)) f
  sorted_between (x ∷ out) u t us ts s f e =
      let P : K → Type 0 = λ z. R x z ≡ Less in
      let left : AllByRecursion P (out ++ u ∷ us) = sorted_above R x (out ++ u ∷ us) s in
      let right : AllByRecursion P (out ++ t ∷ ts) = sorted_above R x (out ++ t ∷ ts) f in
      let at : AllByRecursion P (u ∷ us) = all_back P out (u ∷ us) left in
      sorted_cons R x (out ++ u ∷ t ∷ ts) (all_append P out (u ∷ t ∷ ts) (all_front P out (u ∷ us) left) (at.0, all_back P out (t ∷ ts) right))
      (sorted_between out u t us ts (sorted_rest R x (out ++ u ∷ us) s) (sorted_rest R x (out ++ t ∷ ts) f) e)

  regroup : (out : List K) (u : K) (us : List K) → (out ++ u ∷ []) ++ us ≡ out ++ u ∷ us
  regroup out u us = append_assoc out (u ∷ []) us

  -- out and one more item, which is there on the other side
  more_members : (out : List K) (u : K) (ts : List K) (q : K) → Contains (out ++ u ∷ ts) q → Contains (out ++ u ∷ []) q ⊎ Contains (out ++ ts) q
  more_members out u ts q c =
      ⊎_elim (λ front. inl (Contains-append_left out (u ∷ []) q front))
      (λ back. ⊎_elim (λ (e : q ≡ u). inl (Contains-append_right out (u ∷ []) q (subst (λ z. Contains (u ∷ []) z) (sym e) (Contains-head u []))))
      (λ rest. inr (Contains-append_right out ts q rest)) (Contains-cons_cases u ts q back))
      (Contains-append_cases out (u ∷ ts) q c)

  merge_less : (xs ys out : List K) (u t : K) (us ts : List K) → Merging R xs ys out (u ∷ us) (t ∷ ts) → R u t ≡ Less → Merging R xs ys (out ++ u ∷ []) us (t ∷ ts)
  merge_less xs ys out u t us ts m e = record {
    first = rw (regroup out u us) m.first;
    second = rw (regroup out u (t ∷ ts)) (sorted_between out u t us ts m.first m.second e);
    whole = λ q. (
      λ c. (m.whole q).0 (⊎_elim (λ a. inl (rw (regroup out u us) at a))
          (λ b. ⊎_elim (λ f. inl (rw (regroup out u us) at (Contains-append_left (out ++ u ∷ []) us q f))) (λ g. inr g) (more_members out u (t ∷ ts) q (rw (regroup out u (t ∷ ts)) at b))) c),
      λ c. ⊎_elim (λ a. inl (rw (regroup out u us) a))
          (λ b. inr (⊎_elim (λ f. Contains-append_left (out ++ u ∷ []) (t ∷ ts) q (Contains-append_left out (u ∷ []) q f)) (λ g. Contains-append_right (out ++ u ∷ []) (t ∷ ts) q g) (Contains-append_cases out (t ∷ ts) q b)))
          ((m.whole q).1 c),
    );
  }

  merge_equal : (xs ys out : List K) (u t : K) (us ts : List K) → Merging R xs ys out (u ∷ us) (t ∷ ts) → u ≡ t → Merging R xs ys (out ++ u ∷ []) us ts
  merge_equal xs ys out u t us ts m e =
      let same : (out ++ u ∷ []) ++ ts ≡ out ++ t ∷ ts = regroup out u ts ∙ ap (λ z. out ++ z ∷ ts) e in
      record {
        first = rw (regroup out u us) m.first;
        second = subst (IsStrictlySortedBy R) (sym same) m.second;
        whole = λ q. (
          λ c. (m.whole q).0 (⊎_elim (λ a. inl (rw (regroup out u us) at a)) (λ b. inr (subst (λ (l : List K). Contains l q) same b)) c),
          λ c. ⊎_elim (λ a. inl (rw (regroup out u us) a)) (λ b. inr (subst (λ (l : List K). Contains l q) (sym same) b)) ((m.whole q).1 c),
        );
      }

  swapped : {P Q : Type 0} → P ⊎ Q → Q ⊎ P
  swapped c = ⊎_elim (λ a. inr a) (λ b. inl b) c

  merge_swapped : (xs ys out us ts : List K) → Merging R xs ys out us ts → Merging R ys xs out ts us
  merge_swapped xs ys out us ts m = record {
    first = m.second;
    second = m.first;
    whole = λ q. (λ c. swapped ((m.whole q).0 (swapped c)), λ c. swapped ((m.whole q).1 (swapped c)));
  }

  pub merge_start : (xs ys out : List K) → out ≡ [] → IsStrictlySortedBy R xs → IsStrictlySortedBy R ys → Merging R xs ys out xs ys
  merge_start xs ys out e s t = record {
    first = rw e s;
    second = rw e t;
    whole = λ q. (λ c. rw e at c, λ c. rw e c);
  }

  opened : (xs : List K) (i : ℕ) (u : K) → i < length xs → u ≡ get_or xs i u → drop i xs ≡ u ∷ drop (i + 1) xs
  opened xs i u n e = rw (add-one, drop-cons xs i u) (rw (← e))

  opened_both : (xs ys out : List K) (i j : ℕ) (u t : K) → At xs ys i j u t → Merging R xs ys out (drop i xs) (drop j ys) → Merging R xs ys out (u ∷ drop (i + 1) xs) (t ∷ drop (j + 1) ys)
  opened_both xs ys out i j u t at m =
      subst (λ (l : List K). Merging R xs ys out l (t ∷ drop (j + 1) ys)) (opened xs i u at.first_in at.first_is)
      (subst (λ (l : List K). Merging R xs ys out (drop i xs) l) (opened ys j t at.second_in at.second_is) m)

  pub merge_at_less : (xs ys out new : List K) (i j : ℕ) (u t : K) → At xs ys i j u t → Merging R xs ys out (drop i xs) (drop j ys) → R u t ≡ Less → new ≡ out ++ u ∷ [] → Merging R xs ys new (drop (i + 1) xs) (drop j ys)
  merge_at_less xs ys out new i j u t at m e is =
      subst (λ (l : List K). Merging R xs ys l (drop (i + 1) xs) (drop j ys)) (sym is)
      (subst (λ (l : List K). Merging R xs ys (out ++ u ∷ []) (drop (i + 1) xs) l) (sym (opened ys j t at.second_in at.second_is))
      (merge_less xs ys out u t (drop (i + 1) xs) (drop (j + 1) ys) (opened_both xs ys out i j u t at m) e))

  pub merge_at_equal : (xs ys out new : List K) (i j : ℕ) (u t : K) → At xs ys i j u t → Merging R xs ys out (drop i xs) (drop j ys) → u ≡ t → new ≡ out ++ u ∷ [] → Merging R xs ys new (drop (i + 1) xs) (drop (j + 1) ys)
  merge_at_equal xs ys out new i j u t at m e is =
      subst (λ (l : List K). Merging R xs ys l (drop (i + 1) xs) (drop (j + 1) ys)) (sym is)
      (merge_equal xs ys out u t (drop (i + 1) xs) (drop (j + 1) ys) (opened_both xs ys out i j u t at m) e)

  pub merge_at_greater : (xs ys out new : List K) (i j : ℕ) (u t : K) → At xs ys i j u t → Merging R xs ys out (drop i xs) (drop j ys) → R u t ≡ Greater → new ≡ out ++ t ∷ [] → Merging R xs ys new (drop i xs) (drop (j + 1) ys)
  merge_at_greater xs ys out new i j u t at m e is =
      merge_swapped ys xs new (drop (j + 1) ys) (drop i xs)
      (merge_at_less ys xs out new j i t u (record { first_in = at.second_in; second_in = at.first_in; first_is = at.second_is; second_is = at.first_is }) (merge_swapped xs ys out (drop i xs) (drop j ys) m) (flips o u t e) is)

  finished : (xs ys out us ts new : List K) → Merging R xs ys out us ts → us ≡ [] → new ≡ out ++ ts → IsStrictlySortedBy R new × Joins xs ys new
  finished xs ys out us ts new m ended is = (
    subst (IsStrictlySortedBy R) (sym is) m.second,
    λ q. (
      λ c. (m.whole q).0 (inr (subst (λ (l : List K). Contains l q) is c)),
      λ c. subst (λ (l : List K). Contains l q) (sym is)
          (⊎_elim (λ a. ⊎_elim (λ f. Contains-append_left out ts q f) (λ g. absurd (Contains-none q (subst (λ (l : List K). Contains l q) ended g))) (Contains-append_cases out us q a))
          (λ b. b) ((m.whole q).1 c)),
    ),
  )

  pub merge_end : (xs ys out us ts new : List K) → Merging R xs ys out us ts → (us ≡ []) ⊎ (ts ≡ []) → new ≡ (out ++ us) ++ ts → IsStrictlySortedBy R new × Joins xs ys new
  merge_end xs ys out us ts new m ended is =
      ⊎_elim (λ (a : us ≡ []). finished xs ys out us ts new m a (is ∙ ap (λ (l : List K). (out ++ l) ++ ts) a ∙ ap (λ (l : List K). l ++ ts) (append-nil out)))
      (λ (b : ts ≡ []). let other = finished ys xs out ts us new (merge_swapped xs ys out us ts m) b (is ∙ ap (λ (l : List K). (out ++ us) ++ l) b ∙ append-nil (out ++ us)) in
      (other.0, λ q. (λ c. swapped ((other.1 q).0 c), λ c. (other.1 q).1 (swapped c))))
      ended

module _ {K : Type 0} where
  -- a list that holds all of the other joins it with nothing new
  pub Joins-known : (xs ys : List K) → ((q : K) → Contains ys q → Contains xs q) → Joins xs ys xs
  Joins-known xs ys known q = (λ c. inl c, λ c. ⊎_elim (λ a. a) (λ b. known q b) c)

  pub known_more : (xs ys : List K) (i j : ℕ) (u t : K) → At xs ys i j u t → u ≡ t → ((q : K) → Contains (take j ys) q → Contains xs q) → (q : K) → Contains (take (j + 1) ys) q → Contains xs q
  known_more xs ys i j u t at e known q c =
      let one : take (j + 1) ys ≡ take j ys ++ t ∷ [] = take_more ys j t at.second_in ∙ ap (λ z. take j ys ++ z ∷ []) (sym at.second_is) in
      ⊎_elim (λ a. known q a)
      (λ b. ⊎_elim (λ (f : q ≡ t). subst (λ z. Contains xs z) (e ∙ sym f) (i, at.first_in, sym at.first_is)) (λ g. absurd (Contains-none q g)) (Contains-cons_cases t [] q b))
      (Contains-append_cases (take j ys) (t ∷ []) q (subst (λ (l : List K). Contains l q) one c))

  -- what is left where the search of a merge ends
  pub known_all : (xs ys : List K) (j n : ℕ) → j ≤ length ys → (n ≡ 0 → (q : K) → Contains (take j ys) q → Contains xs q) → n + (length ys - j) ≡ 0 → (q : K) → Contains ys q → Contains xs q
  known_all xs ys j n within known none q c =
      let whole : take j ys ≡ ys = take_all j ys (omega arith) in
      known (omega arith) q (subst (λ (l : List K). Contains l q) (sym whole) c)

pub inserted : {K : Type 0} {R : K → K → Ordering} → IsTotalOrder R → (x : K) (xs ys zs : List K) (i : ℕ) → ys ≡ xs → IsStrictlySortedBy R xs → i ≤ length ys → IsPlace R x ys i → zs ≡ take i xs ++ x ∷ drop i xs → IsStrictlySortedBy R zs × Adds xs zs x
inserted {K} {R} o x xs ys zs i e s within place is =
    let P : List K → Type 0 = λ l. (i ≤ length l) × IsPlace R x l i in
    let at = subst P e (within, place) in
    (subst (IsStrictlySortedBy R) (sym is) (sorted_place o x xs i at.0 s at.1.before at.1.after), subst (λ (l : List K). Adds xs l x) (sym is) (Adds-place x xs i))

pub tail_of : {K : Type 0} (i : ℕ) (xs : List K) → take (length xs - i) (drop i xs) ≡ drop i xs
tail_of i xs = take_all (length xs - i) (drop i xs) (omega (arith, length-drop i xs))

none_left : {K : Type 0} (i : ℕ) (xs : List K) → length xs ≤ i → drop i xs ≡ []
none_left i xs n = drop_all i xs n

-- a merge that has come to the end of one list adds the rest of each
pub merge_done : {K : Type 0} {R : K → K → Ordering} → IsTotalOrder R → (xs ys out mid new : List K) (i j : ℕ) → Merging R xs ys out (drop i xs) (drop j ys) → (length xs ≤ i) ⊎ (length ys ≤ j) → mid ≡ out ++ take (length xs - i) (drop i xs) → new ≡ mid ++ take (length ys - j) (drop j ys) → IsStrictlySortedBy R new × Joins xs ys new
merge_done o xs ys out mid new i j m ended is_mid is_new =
    merge_end o xs ys out (drop i xs) (drop j ys) new m (⊎_elim (λ a. inl (none_left i xs a)) (λ b. inr (none_left j ys b)) ended)
    (is_new ∙ ap₂ (λ (l r : List _). l ++ r) (is_mid ∙ ap (λ (l : List _). out ++ l) (tail_of i xs)) (tail_of j ys))

-- a list that joins all of the other is unchanged
pub Joins-unchanged : {K : Type 0} {R : K → K → Ordering} → IsTotalOrder R → (xs ys new : List K) → IsStrictlySortedBy R xs → IsStrictlySortedBy R new → Joins xs ys new → HasAll xs ys → new ≡ xs
Joins-unchanged o xs ys new s t joins has = same_list o new xs t s (λ q. (λ c. ⊎_elim (λ a. a) (λ b. has q b) ((joins q).0 c), λ c. (joins q).1 (inl c)))

-- a copy that is sorted and has repeats taken out
pub SameMembers-sorted : {K : Type 0} {R : K → K → Ordering} {E : K → K → Bool} → IsEquivalence E → CmpEqualImpliesEq R → ((x y : K) → E x y ≡ eq_by_cmp R x y) → (xs ys zs new : List K) → ys ≡ xs → IsPermutation ys zs → new ≡ dedup E zs → SameMembers xs new
SameMembers-sorted {E = E} laws exact ties xs ys zs new e moves is q = (
  λ c. rw is (Contains-dedup laws (λ x y t. tells_apart exact x y (sym (ties x y) ∙ t)) zs q (Contains-permutation ys zs q moves (rw e c))),
  λ c. rw e at (Contains-permutation zs ys q (IsPermutation-sym ys zs moves) (Contains-from_dedup E zs q (rw is at c))),
)
