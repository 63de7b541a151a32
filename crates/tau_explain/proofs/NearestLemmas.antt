-- The nearest point of a list, and the least point at a distance, with one point more.
use Rattle.std.proofs.Common.{◌≡◌, ◌≢◌, ◌⊎◌, ◌<◌, ◌+◌, ℕ, Bool, true, false, nat_lt, if◌then◌else◌, List, [], ◌∷◌, ◌++◌, length, get_or, take, Option, Some, None, refl, sym, ap, ◌∙◌, subst, inl, inr, ⊎_elim, arith}
use Rattle.std.specs.Prelude.{Contains, IfSome}
use Rattle.std.specs.declared.cmp.Ordering.TheVariants.{Less}
use Rattle.std.proofs.lemmas.Bool.{lt-ltb, ltb-true, ltb-false, cases_lt}
use Rattle.std.proofs.lemmas.List.{take_more, get_or-take, get_or_default, length-take}
use Rattle.std.proofs.lemmas.List.Elements.{Contains-append_left, Contains-push, Contains-push_cases}
use Rattle.std.proofs.lemmas.Map.Keys.{Less-from_sorted}
use Rattle.tau_points.specs.declared.point.Point.{Point}
use Rattle.tau_points.specs.Order.{point_cmp, IsAscending}
use Rattle.tau_points.proofs.PointOrder.{point_cmp-total}
use Rattle.tau_explain.specs.Chains.Chains.{IsNotAfter}
use Rattle.tau_explain.specs.Chains.Inner.Distances.{IsNearestOf, IsLeastAt, nearer_of}

same_some : {a b : ℕ} → Some a ≡ Some b → a ≡ b
same_some e = cc

pub picked : (m n : ℕ) (x y : Option (Point × ℕ)) → m < n → x ≡ (if nat_lt m n then x else y)
picked m n x y lt = rw (lt-ltb m n lt) refl

pub not_after_trans : (p q r : Point) → IsNotAfter p q → IsNotAfter q r → IsNotAfter p r
not_after_trans p q r a b = ⊎_elim
    (λ (same : p ≡ q). subst (λ z. IsNotAfter z r) (sym same) b)
    (λ less. ⊎_elim (λ (same : q ≡ r). inr (subst (λ z. point_cmp p z ≡ Less) same less)) (λ less2. inr (point_cmp-total.trans p q r less less2)) b)
    a

module _ (far : Point → Option ℕ) (ys : List Point) (x : Point) where
  old : (q : Point) → Contains ys q → Contains (ys ++ x ∷ []) q
  old q c = Contains-append_left ys (x ∷ []) q c

  -- the nearest, with one point more, which stands behind the others
  module _ (after : (q : Point) → Contains ys q → point_cmp q x ≡ Less) where
    at_x : (m k : ℕ) (q : Point) → far x ≡ Some m → far q ≡ Some k → x ≡ q → m ≡ k
    at_x m k q e f s = same_some (sym e ∙ ap far s ∙ f)

    nearer_cases : (n : Option (Point × ℕ)) (o : Option ℕ) → far x ≡ o → IsNearestOf (Contains ys) far n → IsNearestOf (Contains (ys ++ x ∷ [])) far (nearer_of n x o)
    nearer_cases None None e h = λ q c. ⊎_elim (λ a. h q a) (λ (s : x ≡ q). subst (λ z. far z ≡ None) s e) (Contains-push_cases ys x q c)
    nearer_cases (Some p) None e h = record {
      begins = old p.0 h.begins;
      at = h.at;
      best = λ q m c f. ⊎_elim (λ a. h.best q m a f) (λ (s : x ≡ q). let y : None ≡ Some m = sym e ∙ ap far s ∙ f in absurd (cc)) (Contains-push_cases ys x q c);
    }
    nearer_cases None (Some m) e h = record {
      begins = Contains-push ys x;
      at = e;
      best = λ q k c f. ⊎_elim (λ a. let y : None ≡ Some k = sym (h q a) ∙ f in absurd (cc)) (λ (s : x ≡ q). inr (at_x m k q e f s, inl s)) (Contains-push_cases ys x q c);
    }
    nearer_cases (Some p) (Some m) e h = by (nat_lt m p.1) refl where
      by : (b : Bool) → nat_lt m p.1 ≡ b → IsNearestOf (Contains (ys ++ x ∷ [])) far (if b then Some (x, m) else Some p)
      by true t =
          let lt = ltb-true m p.1 t in
          record {
            begins = Contains-push ys x;
            at = e;
            best = λ q k c f. ⊎_elim
                (λ a. inl (⊎_elim (λ less. omega (arith, less, lt)) (λ same. omega (arith, same.0, lt)) (h.best q k a f)))
                (λ (s : x ≡ q). inr (at_x m k q e f s, inl s))
                (Contains-push_cases ys x q c);
          }
      by false t =
          let le = ltb-false m p.1 t in
          record {
            begins = old p.0 h.begins;
            at = h.at;
            best = λ q k c f. ⊎_elim (λ a. h.best q k a f) (λ (s : x ≡ q).
                let same = at_x m k q e f s in
                ⊎_elim (λ less. inl (omega (arith, less, same))) (λ le2. inr (omega (arith, le, le2, same), inr (subst (λ z. point_cmp p.0 z ≡ Less) s (after p.0 h.begins)))) (cases_lt p.1 m))
                (Contains-push_cases ys x q c);
          }

  -- the least at a distance, with one point more
  module _ (n : ℕ) where
    lesser_cases : (o : Option Point) (r : Point) → far x ≡ Some n → (r ≡ x) ⊎ (o ≡ Some r) → IfSome o (IsNotAfter r) → IsNotAfter r x → IsLeastAt (Contains ys) far n o → IsLeastAt (Contains (ys ++ x ∷ [])) far n (Some r)
    lesser_cases None r e either least point h =
        let same : r ≡ x = ⊎_elim (λ s. s) (λ s. absurd (cc)) either in (
          subst (Contains (ys ++ x ∷ [])) (sym same) (Contains-push ys x),
          ap far same ∙ e,
          λ q c f. ⊎_elim (λ a. absurd (h q a f)) (λ (s : x ≡ q). inl (same ∙ s)) (Contains-push_cases ys x q c),
        )
    lesser_cases (Some p) r e either least point h = (
      ⊎_elim (λ (s : r ≡ x). subst (Contains (ys ++ x ∷ [])) (sym s) (Contains-push ys x)) (λ s. subst (Contains (ys ++ x ∷ [])) (is s) (old p h.0)) either,
      ⊎_elim (λ (s : r ≡ x). ap far s ∙ e) (λ s. ap far (sym (is s)) ∙ h.1) either,
      λ q c f. ⊎_elim (λ a. not_after_trans r p q least (h.2 q a f)) (λ (s : x ≡ q). subst (λ z. IsNotAfter r z) s point) (Contains-push_cases ys x q c),
    ) where
      is : Some p ≡ Some r → p ≡ r
      is s = cc

    passed_cases : (o : Option Point) → far x ≢ Some n → IsLeastAt (Contains ys) far n o → IsLeastAt (Contains (ys ++ x ∷ [])) far n o
    passed_cases None ne h = λ q c f. ⊎_elim (λ a. h q a f) (λ (s : x ≡ q). ne (ap far s ∙ f)) (Contains-push_cases ys x q c)
    passed_cases (Some p) ne h = (old p h.0, h.1, λ q c f. ⊎_elim (λ a. h.2 q a f) (λ (s : x ≡ q). absurd (ne (ap far s ∙ f))) (Contains-push_cases ys x q c))

before : (xs : List Point) (i : ℕ) (d q : Point) → IsAscending xs → i < length xs → Contains (take i xs) q → point_cmp q (get_or xs i d) ≡ Less
before xs i d q s lt c =
    let low : c.0 < i = omega (arith, c.1, length-take i xs) in
    let at : get_or xs c.0 d ≡ q = get_or_default xs c.0 d q (omega (arith, low, lt)) ∙ sym (get_or-take i xs c.0 q low) ∙ c.2 in
    subst (λ z. point_cmp z (get_or xs i d) ≡ Less) at (Less-from_sorted point_cmp xs c.0 i d s low lt)

pub nearest_more : (far : Point → Option ℕ) (xs : List Point) (i : ℕ) (d : Point) (n m : Option (Point × ℕ)) (o : Option ℕ) → IsAscending xs → i < length xs → far (get_or xs i d) ≡ o → m ≡ nearer_of n (get_or xs i d) o → IsNearestOf (Contains (take i xs)) far n → IsNearestOf (Contains (take (i + 1) xs)) far m
nearest_more far xs i d n m o s lt e f h =
    subst (λ (l : List Point). IsNearestOf (Contains l) far m) (sym (take_more xs i d lt))
    (subst (IsNearestOf (Contains (take i xs ++ get_or xs i d ∷ [])) far) (sym f) (nearer_cases far (take i xs) (get_or xs i d) (λ q c. before xs i d q s lt c) n o e h))

pub least_more : (far : Point → Option ℕ) (n : ℕ) (xs : List Point) (i : ℕ) (d r : Point) (o : Option Point) → i < length xs → far (get_or xs i d) ≡ Some n → (r ≡ get_or xs i d) ⊎ (o ≡ Some r) → IfSome o (IsNotAfter r) → IsNotAfter r (get_or xs i d) → IsLeastAt (Contains (take i xs)) far n o → IsLeastAt (Contains (take (i + 1) xs)) far n (Some r)
least_more far n xs i d r o lt e either least point h =
    subst (λ (l : List Point). IsLeastAt (Contains l) far n (Some r)) (sym (take_more xs i d lt)) (lesser_cases far (take i xs) (get_or xs i d) n o r e either least point h)

pub least_passed : (far : Point → Option ℕ) (n : ℕ) (xs : List Point) (i : ℕ) (d : Point) (o : Option Point) → i < length xs → far (get_or xs i d) ≢ Some n → IsLeastAt (Contains (take i xs)) far n o → IsLeastAt (Contains (take (i + 1) xs)) far n o
least_passed far n xs i d o lt ne h =
    subst (λ (l : List Point). IsLeastAt (Contains l) far n o) (sym (take_more xs i d lt)) (passed_cases far (take i xs) (get_or xs i d) n o ne h)
