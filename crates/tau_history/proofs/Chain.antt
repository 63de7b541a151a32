-- Histories that precede one: they lie on a chain, and their numbers agree with its.
use Rattle.std.proofs.Common.{◌≡◌, ℕ, zero, suc, ◌-◌, ◌<◌, ◌≤◌, ◌⊎◌, inl, inr, ⊎_elim, Bool, true, false, List, [], ◌∷◌, ◌++◌, length, take, Some, refl, sym, ap, ◌∙◌, append_assoc, length-append, arith}
use Rattle.std.specs.Prelude.{slice_get}
use Rattle.std.proofs.Math.Seq.{take-length, take-append_seam}
use Rattle.tau_history.proofs.Gets.{slice_get-append, slice_get-seam}
use Rattle.tau_history.specs.Timeline.{Timeline, numbers, interval}
use Rattle.tau_history.specs.Order.{Precedes, AreComparable}
use Rattle.tau_history.proofs.Order.{IsBelow, fallen, same_point, later_interval, below_of, precedes_of}

-- two histories with the same closed numbers
level : (a b : Timeline) → a.closed ≡ b.closed → IsBelow a b ⊎ IsBelow b a
level a b e = by_last (a.last - b.last) (b.last - a.last) refl refl where
  by_mode : (s : Bool) → b.stable ≡ s → a.last ≡ b.last → IsBelow a b ⊎ IsBelow b a
  by_mode true t l = inl (same_point e l (λ _. t))
  by_mode false t l = inr (same_point (sym e) (sym l) (λ h. cc))

  by_last : (j k : ℕ) → a.last - b.last ≡ j → b.last - a.last ≡ k → IsBelow a b ⊎ IsBelow b a
  by_last zero zero p q = by_mode b.stable refl (omega arith)
  by_last (suc j) k p q = inr (fallen (sym e) (omega arith))
  by_last zero (suc k) p q = inl (fallen e (omega arith))

-- two fronts of one list
fronts : (xs ys : List ℕ) (n m : ℕ) (r s : List ℕ) → xs ++ n ∷ r ≡ ys ++ m ∷ s → (xs ≡ ys) ⊎ (((t : List ℕ) × (ys ≡ xs ++ n ∷ t)) ⊎ ((t : List ℕ) × (xs ≡ ys ++ m ∷ t)))
fronts [] [] n m r s e = inl refl
fronts [] (y ∷ ys) n m r s e = let h : n ≡ y = cc in inr (inl (ys, λ i. sym h i ∷ ys))
fronts (x ∷ xs) [] n m r s e = let h : x ≡ m = cc in inr (inr (xs, λ i. h i ∷ xs))
fronts (x ∷ xs) (y ∷ ys) n m r s e =
    let h : x ≡ y = cc in
    let rest : xs ++ n ∷ r ≡ ys ++ m ∷ s = cc in
    ⊎_elim (λ p. inl (λ i. h i ∷ p i)) (λ q. ⊎_elim (λ u. inr (inl (u.0, λ i. sym h i ∷ u.1 i))) (λ u. inr (inr (u.0, λ i. h i ∷ u.1 i))) q) (fronts xs ys n m r s rest)

either : (a b : Timeline) → IsBelow a b ⊎ IsBelow b a → AreComparable a b
either a b (inl p) = inl (precedes_of a b p)
either a b (inr p) = inr (precedes_of b a p)

on_chain : (a b c : Timeline) → IsBelow a c → IsBelow b c → IsBelow a b ⊎ IsBelow b a
on_chain a b c (fallen e l) (fallen f k) = level a b (e ∙ sym f)
on_chain a b c (fallen e l) (same_point f k s) = level a b (e ∙ sym f)
on_chain a b c (fallen e l) (later_interval m s f k) = inr (later_interval m s (e ∙ f) k)
on_chain a b c (same_point e l t) (fallen f k) = level a b (e ∙ sym f)
on_chain a b c (same_point e l t) (same_point f k s) = level a b (e ∙ sym f)
on_chain a b c (same_point e l t) (later_interval m s f k) = inr (later_interval m s (e ∙ f) k)
on_chain a b c (later_interval n r e l) (fallen f k) = inl (later_interval n r (f ∙ e) l)
on_chain a b c (later_interval n r e l) (same_point f k s) = inl (later_interval n r (f ∙ e) l)
on_chain a b c (later_interval n r e l) (later_interval m s f k) =
    ⊎_elim (λ p. level a b p)
    (λ q. ⊎_elim (λ u. inl (later_interval n u.0 u.1 l)) (λ u. inr (later_interval m u.0 u.1 k)) q)
    (fronts a.closed b.closed n m r s (sym e ∙ f))

-- of two histories that both precede a third, one precedes the other
pub comparable_below : {a b c : Timeline} → Precedes a c → Precedes b c → AreComparable a b
comparable_below {a} {b} {c} p q = either a b (on_chain a b c (below_of p) (below_of q))

pub law_comparable : (a b c : Timeline) → Precedes a c → Precedes b c → AreComparable a b
law_comparable a b c p q = comparable_below p q

pub interval_grows : {a b : Timeline} → Precedes a b → interval a ≤ interval b
interval_grows {a} {b} p = by_parts (below_of p) where
  by_parts : IsBelow a b → interval a ≤ interval b
  by_parts (fallen e l) = omega (arith, ap length e)
  by_parts (same_point e l s) = omega (arith, ap length e)
  by_parts (later_interval n r e l) = omega (arith, ap length e, length-append a.closed (n ∷ r))

-- the closed numbers are a front of the later's closed numbers
pub closed_front : {a b : Timeline} → Precedes a b → a.closed ≡ take (interval a) b.closed
closed_front {a} {b} p = by_parts (below_of p) where
  whole : a.closed ≡ b.closed → a.closed ≡ take (interval a) b.closed
  whole e = sym (take-length a.closed) ∙ ap (take (interval a)) e

  by_parts : IsBelow a b → a.closed ≡ take (interval a) b.closed
  by_parts (fallen e l) = whole e
  by_parts (same_point e l s) = whole e
  by_parts (later_interval n r e l) = sym (take-append_seam a.closed (n ∷ r)) ∙ ap (take (interval a)) (sym e)

-- the number of a closed interval stays
pub number_stays : {a b : Timeline} → Precedes a b → (i : ℕ) → i < interval a → slice_get (numbers b) i ≡ slice_get (numbers a) i
number_stays {a} {b} p i h = by_parts (below_of p) where
  own : slice_get (numbers a) i ≡ slice_get a.closed i
  own = slice_get-append a.closed (a.last ∷ []) i h

  whole : a.closed ≡ b.closed → slice_get (numbers b) i ≡ slice_get (numbers a) i
  whole e = slice_get-append b.closed (b.last ∷ []) i (omega (arith, ap length e)) ∙ ap (λ xs. slice_get xs i) (sym e) ∙ sym own

  by_parts : IsBelow a b → slice_get (numbers b) i ≡ slice_get (numbers a) i
  by_parts (fallen e l) = whole e
  by_parts (same_point e l s) = whole e
  by_parts (later_interval n r e l) =
      slice_get-append b.closed (b.last ∷ []) i (omega (arith, ap length e, length-append a.closed (n ∷ r))) ∙ ap (λ xs. slice_get xs i) e
      ∙ slice_get-append a.closed (n ∷ r) i h ∙ sym own

-- the number of the present interval only grows
pub own_number_grows : {a b : Timeline} → Precedes a b → (n : ℕ) × (slice_get (numbers b) (interval a) ≡ Some n) × (a.last ≤ n)
own_number_grows {a} {b} p = by_parts (below_of p) where
  at_end : a.closed ≡ b.closed → slice_get (numbers b) (interval a) ≡ Some b.last
  at_end e = ap (λ k. slice_get (numbers b) k) (ap length e) ∙ slice_get-seam b.closed b.last []

  by_parts : IsBelow a b → (n : ℕ) × (slice_get (numbers b) (interval a) ≡ Some n) × (a.last ≤ n)
  by_parts (fallen e l) = (b.last, at_end e, omega arith)
  by_parts (same_point e l s) = (b.last, at_end e, omega arith)
  by_parts (later_interval n r e l) =
      (n, ap (λ xs. slice_get xs (interval a)) (ap (λ xs. xs ++ b.last ∷ []) e ∙ append_assoc a.closed (n ∷ r) (b.last ∷ [])) ∙ slice_get-seam a.closed n (r ++ b.last ∷ []), l)
