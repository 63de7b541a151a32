-- The nearest variable with a name, sought from the last one on.
use Rattle.std.proofs.Common.{◌≡◌, ◌≢◌, ℕ, zero, suc, ◌+◌, ◌<◌, Bool, true, false, IsTrue, ◌↔◌, List, [], ◌∷◌, ◌++◌, length, map, take, drop, get_or, Option, Some, None, cond, refl, sym, ap, ◌∙◌, arith}
use Rattle.std.specs.Option.{option_or}
use Rattle.std.specs.Str.{bytes_eq}
use Rattle.std.proofs.lemmas.Slice.Eq.{bytes_eq-Decides}
use Rattle.tau_value.specs.Val.{Val}
use Rattle.tau_eval.specs.Meaning.{Scope, nearest}

or_assoc : (a b c : Option Val) → option_or (option_or a b) c ≡ option_or a (option_or b c)
or_assoc None b c = refl
or_assoc (Some v) b c = refl

or_none : (a : Option Val) → a ≡ option_or a None
or_none None = refl
or_none (Some v) = refl

pub nearest-append : (x : List ℕ) (bs cs : Scope) → nearest x (bs ++ cs) ≡ option_or (nearest x cs) (nearest x bs)
nearest-append x [] cs = or_none (nearest x cs)
nearest-append x (b ∷ bs) cs =
    ap (λ o. option_or o (cond (bytes_eq b.0 x) (Some b.1) None)) (nearest-append x bs cs) ∙ or_assoc (nearest x cs) (nearest x bs) (cond (bytes_eq b.0 x) (Some b.1) None)

module _ {B : Type 0} (f : B → List ℕ × Val) (x : List ℕ) where
  dropped : (bs : List B) (k : ℕ) (b : B) → k < length bs → b ≡ get_or bs k b → nearest x (map f (drop (suc k) bs)) ≡ None → nearest x (map f (drop k bs)) ≡ cond (bytes_eq (f b).0 x) (Some (f b).1) None
  dropped [] k b lt is h = absurd (omega arith)
  dropped (c ∷ bs) zero b lt is h =
      ap (λ o. option_or o (cond (bytes_eq (f c).0 x) (Some (f c).1) None)) h ∙ ap (λ d. cond (bytes_eq (f d).0 x) (Some (f d).1) None) (sym is)
  dropped (c ∷ bs) (suc k) b lt is h = dropped bs k b (omega arith) is h

  kept : (bs : List B) (k : ℕ) (v : Val) → nearest x (map f (drop k bs)) ≡ Some v → nearest x (map f bs) ≡ Some v
  kept bs zero v h = h
  kept [] (suc k) v h = h
  kept (c ∷ bs) (suc k) v h = ap (λ o. option_or o (cond (bytes_eq (f c).0 x) (Some (f c).1) None)) (kept bs k v h)

  chosen : (b : Bool) (y : List ℕ) (v : Val) → (IsTrue b ↔ (y ≡ x)) → cond (bytes_eq y x) (Some v) None ≡ cond b (Some v) None
  chosen b y v h = by b (bytes_eq y x) refl h.0 h.1 where
    by : (a t : Bool) → bytes_eq y x ≡ t → (IsTrue a → y ≡ x) → (y ≡ x → IsTrue a) → cond t (Some v) None ≡ cond a (Some v) None
    by true true e there back = refl
    by false false e there back = refl
    by true false e there back = cc ((bytes_eq-Decides y x).1 (there refl))
    by false true e there back = cc (back ((bytes_eq-Decides y x).0 e))

  pub nearest-found : (bs : List B) (n k : ℕ) (b : B) (t : Bool) → suc k ≡ n → k < length bs → b ≡ get_or bs k b → nearest x (map f (drop n bs)) ≡ None → (IsTrue t ↔ ((f b).0 ≡ x)) → t ≡ true → nearest x (map f bs) ≡ Some (f b).1
  nearest-found bs n k b t more lt is h test e =
      let after : nearest x (map f (drop (suc k) bs)) ≡ None = ap (λ m. nearest x (map f (drop m bs))) more ∙ h in
      kept bs k (f b).1 (dropped bs k b lt is after ∙ chosen t (f b).0 (f b).1 test ∙ ap (λ a. cond a (Some (f b).1) None) e)

  pub nearest-passed : (bs : List B) (n k : ℕ) (b : B) (t : Bool) → suc k ≡ n → k < length bs → b ≡ get_or bs k b → nearest x (map f (drop n bs)) ≡ None → (IsTrue t ↔ ((f b).0 ≡ x)) → t ≡ false → nearest x (map f (drop k bs)) ≡ None
  nearest-passed bs n k b t more lt is h test e =
      let after : nearest x (map f (drop (suc k) bs)) ≡ None = ap (λ m. nearest x (map f (drop m bs))) more ∙ h in
      dropped bs k b lt is after ∙ chosen t (f b).0 (f b).1 test ∙ ap (λ a. cond a (Some (f b).1) None) e

alone : (x : List ℕ) (t : Bool) (y : List ℕ) (v : Val) → (IsTrue t ↔ (y ≡ x)) → cond (bytes_eq y x) (Some v) None ≡ cond t (Some v) None
alone x t y v h = chosen (λ (b : List ℕ × Val). b) x t y v h

-- in a round of a fold the item is nearer than the sum, and the sum nearer than what is around the fold
module _ (x sum item : List ℕ) (a b : Val) (env : Scope) where
  pub nearest-item : (t : Bool) → (IsTrue t ↔ (item ≡ x)) → t ≡ true → nearest x (env ++ (sum, a) ∷ (item, b) ∷ []) ≡ Some b
  nearest-item t h e =
      nearest-append x env ((sum, a) ∷ (item, b) ∷ []) ∙ ap (λ (o : Option Val). option_or (option_or o (cond (bytes_eq sum x) (Some a) None)) (nearest x env)) (alone x t item b h ∙ ap (λ (z : Bool). cond z (Some b) None) e)

  pub nearest-sum : (t u : Bool) → (IsTrue t ↔ (item ≡ x)) → t ≡ false → (IsTrue u ↔ (sum ≡ x)) → u ≡ true → nearest x (env ++ (sum, a) ∷ (item, b) ∷ []) ≡ Some a
  nearest-sum t u h e k f =
      nearest-append x env ((sum, a) ∷ (item, b) ∷ []) ∙ ap (λ (o : Option Val). option_or (option_or o (cond (bytes_eq sum x) (Some a) None)) (nearest x env)) (alone x t item b h ∙ ap (λ (z : Bool). cond z (Some b) None) e) ∙ ap (λ (o : Option Val). option_or o (nearest x env)) (alone x u sum a k ∙ ap (λ (z : Bool). cond z (Some a) None) f)

  pub nearest-around : (t u : Bool) → (IsTrue t ↔ (item ≡ x)) → t ≡ false → (IsTrue u ↔ (sum ≡ x)) → u ≡ false → nearest x (env ++ (sum, a) ∷ (item, b) ∷ []) ≡ nearest x env
  nearest-around t u h e k f =
      nearest-append x env ((sum, a) ∷ (item, b) ∷ []) ∙ ap (λ (o : Option Val). option_or (option_or o (cond (bytes_eq sum x) (Some a) None)) (nearest x env)) (alone x t item b h ∙ ap (λ (z : Bool). cond z (Some b) None) e) ∙ ap (λ (o : Option Val). option_or o (nearest x env)) (alone x u sum a k ∙ ap (λ (z : Bool). cond z (Some a) None) f)
