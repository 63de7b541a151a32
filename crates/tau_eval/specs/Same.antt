-- Equality of values, as a test.
use Rattle.std.specs.Prelude.{◌≡◌, ◌↔◌, ℕ, ℤ, pos, negsuc, Bool, true, false, ◌==◌, ◌&&◌, cond, refl, IsTrue}
use Rattle.std.specs.Str.{bytes_eq}
use Rattle.tau_value.specs.Val.{Val, Vals, unit, truth, int, text, name, list, none, more}

-- whether two truths are equal
abbrev pub same_truths : Bool → Bool → Bool
same_truths true b = b
same_truths false true = false
same_truths false false = true

-- whether two integers are equal
abbrev pub same_integers : ℤ → ℤ → Bool
same_integers (pos m) (pos n) = m == n
same_integers (negsuc m) (negsuc n) = m == n
same_integers x y = false

-- whether two values are equal; values of two kinds never are
abbrev mutual
  pub same_values : Val → Val → Bool
  same_values unit unit = true
  same_values (truth a) (truth b) = same_truths a b
  same_values (int x) (int y) = same_integers x y
  same_values (text s) (text t) = bytes_eq s t
  same_values (name m) (name n) = m == n
  same_values (list us) (list vs) = same_items us vs
  same_values u v = false

  pub same_items : Vals → Vals → Bool
  same_items none none = true
  same_items (more u us) (more v vs) = same_values u v && same_items us vs
  same_items us vs = false

-- the test is true exactly of equal values
abbrev pub SameValuesAreEqual : Type 0
SameValuesAreEqual = (v w : Val) → IsTrue (same_values v w) ↔ (v ≡ w)
