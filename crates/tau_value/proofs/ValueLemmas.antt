-- Equality of values, by variants and by items; sizes of items.
use Rattle.std.proofs.Common.{◌≡◌, ◌↔◌, ℕ, ◌+◌, ◌<◌, ◌≤◌, Bool, IsTrue, List, [], ◌∷◌, ◌++◌, length, map, get_or, Option, None, Some, MatchOption, option_map, option_to_list, sym, ap, ◌∙◌, arith, zero, suc, refl}
use Rattle.std.proofs.lemmas.List.{get_or-map, map-append}
use Rattle.std.specs.List.{last_or}
use Rattle.tau_value.specs.Val.{Val, Vals, unit, truth, int, text, name, list, inside, items_of, items_of-inside}
use Rattle.tau_value.specs.Sizes.{parts_of, parts_of_all}
use Rattle.tau_value.specs.Value.{val_of}
use Rattle.tau_value.specs.declared.shared.Value.{Value}
use Rattle.tau_value.specs.declared.shared.Value.TheVariants as values

pub inside_inj : (xs ys : List Val) → inside xs ≡ inside ys → xs ≡ ys
inside_inj xs ys e = sym (items_of-inside xs) ∙ ap items_of e ∙ items_of-inside ys

list_inj : (xs ys : Vals) → list xs ≡ list ys → xs ≡ ys
list_inj xs ys e = cc

-- a test of the items of two lists tests the lists
pub same_lists : (x y : Value) (xs ys : List Val) (b : Bool) → x ≡ values.List xs → y ≡ values.List ys → (IsTrue b ↔ (xs ≡ ys)) → IsTrue b ↔ (val_of x ≡ val_of y)
same_lists x y xs ys b ex ey test =
    let there : val_of x ≡ list (inside xs) = ap val_of ex in
    let other : val_of y ≡ list (inside ys) = ap val_of ey in (
      λ h. there ∙ ap (λ zs. list (inside zs)) (test.0 h) ∙ sym other,
      λ h. test.1 (inside_inj xs ys (list_inj (inside xs) (inside ys) (sym there ∙ h ∙ other))),
    )

-- the value that has this meaning
pub value_at : Val → Value
value_at unit = values.Unit
value_at (truth b) = values.Truth b
value_at (int z) = values.Int z
value_at (text t) = values.Text t
value_at (name n) = values.Name n
value_at (list vs) = values.List (items_of vs)

pub value_at-val_of : (v : Value) → value_at (val_of v) ≡ v
unfolding value_at
value_at-val_of values.Unit = refl
value_at-val_of (values.Truth b) = refl
value_at-val_of (values.Int z) = refl
value_at-val_of (values.Text t) = refl
value_at-val_of (values.Name n) = refl
value_at-val_of (values.List vs) = ap values.List (items_of-inside vs)

-- values that stand for the same data are equal
pub val_of_inj : (v w : Value) → val_of v ≡ val_of w → v ≡ w
val_of_inj v w e = sym (value_at-val_of v) ∙ ap value_at e ∙ value_at-val_of w

-- equal lists are equal at each place
pub same_at : (fs gs : List Value) (k : ℕ) (f g : Value) → map val_of fs ≡ map val_of gs → k < length fs → k < length gs → f ≡ get_or fs k f → g ≡ get_or gs k g → val_of f ≡ val_of g
same_at fs gs k f g e lf lg ef eg =
    ap val_of ef ∙ sym (get_or-map val_of fs k f (val_of f) lf) ∙ ap (λ ts. get_or ts k (val_of f)) e ∙ get_or-map val_of gs k g (val_of f) lg ∙ sym (ap val_of eg)

-- a list has the parts of each of its items
pub parts-at : (fs : List Value) (k : ℕ) (f : Value) → k < length fs → f ≡ get_or fs k f → parts_of (val_of f) ≤ parts_of_all (inside (map val_of fs))
parts-at [] k f lt e = absurd (omega arith)
parts-at (g ∷ fs) zero f lt e = omega (arith, ap (λ h. parts_of (val_of h)) e)
parts-at (g ∷ fs) (suc k) f lt e = omega (arith, parts-at fs k f (omega arith) e)

pub last_or-push : {X : Type 0} (o : Option X) (xs : List X) (x : X) → last_or o (xs ++ x ∷ []) ≡ Some x
last_or-push o [] x = refl
last_or-push o (y ∷ ys) x = last_or-push (Some y) ys x

-- what a `pop` gives where there are n values is the last one
pub last_popped : (vs ws : List Value) (n m : ℕ) (r : Option Value) → 0 < n → MatchOption r ((n ≡ 0) × (m ≡ 0)) (λ v. m + 1 ≡ n) → vs ≡ ws ++ option_to_list r → option_map val_of r ≡ last_or None (map val_of vs)
last_popped vs ws n m None some cases e = absurd (omega (arith, cases.0))
last_popped vs ws n m (Some v) some cases e = rw (e, map-append val_of ws (v ∷ []), last_or-push None (map val_of ws) (val_of v)) refl

-- the last of a list that a value was added to is that value
pub last_is : (vs : List Val) (v w : Value) → Some (val_of w) ≡ last_or None (vs ++ val_of v ∷ []) → w ≡ v
last_is vs v w e =
    let same : Some (val_of w) ≡ Some (val_of v) = e ∙ last_or-push None vs (val_of v) in
    val_of_inj w v cc

pub last_exists : (vs : List Val) (v : Val) → ¬ (None ≡ last_or None (vs ++ v ∷ []))
last_exists vs v e = let same : None ≡ Some v = e ∙ last_or-push None vs v in cc
