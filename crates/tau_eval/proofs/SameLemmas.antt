-- The test of equality is true exactly of equal values.
use Rattle.std.proofs.Common.{◌≡◌, ◌↔◌, ℤ, pos, negsuc, Bool, true, false, ◌&&◌, IsTrue, refl, ap, ◌∙◌, sym, eq-eqb, eqb-true}
use Rattle.std.proofs.lemmas.Slice.Eq.{bytes_eq-Decides}
use Rattle.std.proofs.lemmas.Bool.{and_parts}
use Rattle.tau_value.specs.Val.{Val, Vals, unit, truth, int, text, name, list, none, more}
use Rattle.tau_eval.specs.Same.{same_truths, same_integers, same_values, same_items, SameValuesAreEqual}

both : (a b : Bool) → a ≡ true → b ≡ true → (a && b) ≡ true
both a b p q = cc

same_truths-refl : (b : Bool) → same_truths b b ≡ true
same_truths-refl true = refl
same_truths-refl false = refl

same_truths-true : (a b : Bool) → same_truths a b ≡ true → a ≡ b
same_truths-true true b e = sym e
same_truths-true false true e = cc
same_truths-true false false e = refl

same_integers-refl : (z : ℤ) → same_integers z z ≡ true
same_integers-refl (pos n) = eq-eqb n n refl
same_integers-refl (negsuc n) = eq-eqb n n refl

same_integers-true : (x y : ℤ) → same_integers x y ≡ true → x ≡ y
same_integers-true (pos m) (pos n) e = ap pos (eqb-true m n e)
same_integers-true (negsuc m) (negsuc n) e = ap negsuc (eqb-true m n e)
same_integers-true x y e = cc

mutual
  same_values-refl : (v : Val) → same_values v v ≡ true
  same_values-refl unit = refl
  same_values-refl (truth b) = same_truths-refl b
  same_values-refl (int z) = same_integers-refl z
  same_values-refl (text t) = (bytes_eq-Decides t t).1 refl
  same_values-refl (name n) = eq-eqb n n refl
  same_values-refl (list vs) = same_items-refl vs

  same_items-refl : (vs : Vals) → same_items vs vs ≡ true
  same_items-refl none = refl
  same_items-refl (more v vs) = both _ _ (same_values-refl v) (same_items-refl vs)

mutual
  same_values-true : (v w : Val) → same_values v w ≡ true → v ≡ w
  same_values-true unit unit e = refl
  same_values-true (truth a) (truth b) e = ap truth (same_truths-true a b e)
  same_values-true (int x) (int y) e = ap int (same_integers-true x y e)
  same_values-true (text s) (text t) e = ap text ((bytes_eq-Decides s t).0 e)
  same_values-true (name m) (name n) e = ap name (eqb-true m n e)
  same_values-true (list us) (list vs) e = ap list (same_items-true us vs e)
  same_values-true v w e = cc

  same_items-true : (us vs : Vals) → same_items us vs ≡ true → us ≡ vs
  same_items-true none none e = refl
  same_items-true (more u us) (more v vs) e =
      let parts = and_parts _ _ e in λ i. more (same_values-true u v parts.0 i) (same_items-true us vs parts.1 i)
  same_items-true us vs e = cc

-- a truth that says whether two values are equal is the test
pub same_values_is : (b : Bool) (v w : Val) → (IsTrue b ↔ (v ≡ w)) → b ≡ same_values v w
same_values_is b v w h = by b (same_values v w) refl h.0 h.1 where
  by : (a t : Bool) → same_values v w ≡ t → (IsTrue a → v ≡ w) → (v ≡ w → IsTrue a) → a ≡ t
  by true t e there back = sym (sym e ∙ ap (same_values v) (sym (there refl)) ∙ same_values-refl v)
  by false true e there back = back (same_values-true v w e)
  by false false e there back = refl

pub same_values_are_equal : SameValuesAreEqual
same_values_are_equal v w = (same_values-true v w, λ e. ap (same_values v) (sym e) ∙ same_values-refl v)
