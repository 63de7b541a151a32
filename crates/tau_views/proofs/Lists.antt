-- Lists after a change of views, item by item.
use Rattle.std.proofs.Common.{◌≡◌, ℕ, zero, suc, ◌<◌, List, [], ◌∷◌, ◌++◌, length, map, set, Option, Some, None, refl, sym, ap, ◌∙◌, arith, length-set}
use Rattle.std.specs.Prelude.{slice_get}
use Rattle.std.specs.Option.{option_map}
use Rattle.tau_trace.proofs.Lists.{same_some, slice_get-set_same, slice_get-set_other}
use Rattle.tau_views.specs.Changes.{with_item, with_last, without_item, with_letter}

pub element : {A : Type 0} (xs : List A) (i : ℕ) → i < length xs → (x : A) × (slice_get xs i ≡ Some x)
element [] i l = absurd (omega arith)
element (x ∷ xs) zero l = (x, refl)
element (x ∷ xs) (suc i) l = element xs i (omega arith)

pub length-with_item : {A : Type 0} (o : Option (ℕ × A)) (xs : List A) → length (with_item o xs) ≡ length xs
length-with_item None xs = refl
length-with_item (Some e) xs = length-set xs e.0 e.1

pub length-without_item : {A : Type 0} (o : Option ℕ) (xs : List (Option A)) → length (without_item o xs) ≡ length xs
length-without_item None xs = refl
length-without_item (Some k) xs = length-set xs k None

map-set : {A B : Type 0} (f : A → B) (xs : List A) (k : ℕ) (x : A) → map f (set xs k x) ≡ set (map f xs) k (f x)
map-set f [] k x = refl
map-set f (y ∷ ys) zero x = refl
map-set f (y ∷ ys) (suc k) x = ap (λ zs. f y ∷ zs) (map-set f ys k x)

pub map-push : {A B : Type 0} (f : A → B) (xs : List A) (x : A) → map f (xs ++ x ∷ []) ≡ map f xs ++ f x ∷ []
map-push f [] x = refl
map-push f (y ∷ ys) x = ap (λ zs. f y ∷ zs) (map-push f ys x)

abbrev pub numbered : {A B : Type 0} → (A → B) → ℕ × A → ℕ × B
numbered f e = (e.0, f e.1)

pub map-with_item : {A B : Type 0} (f : A → B) (o : Option (ℕ × A)) (xs : List A) → map f (with_item o xs) ≡ with_item (option_map (numbered f) o) (map f xs)
map-with_item f None xs = refl
map-with_item f (Some e) xs = map-set f xs e.0 e.1

pub map-with_last : {A B : Type 0} (f : A → B) (o : Option A) (xs : List A) → map f (with_last o xs) ≡ with_last (option_map f o) (map f xs)
map-with_last f None xs = refl
map-with_last f (Some x) xs = map-push f xs x

pub map-without_item : {A B : Type 0} (f : A → B) (o : Option ℕ) (xs : List (Option A)) → map (option_map f) (without_item o xs) ≡ without_item o (map (option_map f) xs)
map-without_item f None xs = refl
map-without_item f (Some k) xs = map-set (option_map f) xs k None

pub map-with_letter : {A B : Type 0} (f : A → B) (o : Option A) (xs : List (Option A)) → map (option_map f) (with_letter o xs) ≡ with_letter (option_map f o) (map (option_map f) xs)
map-with_letter f None xs = refl
map-with_letter f (Some x) xs = map-push (option_map f) xs (Some x)

-- an item that is there after one was taken out was there before
left_by : {A : Type 0} (xs : List (Option A)) (k m : ℕ) (x : A) → slice_get (set xs k None) m ≡ Some (Some x) → slice_get xs m ≡ Some (Some x)
left_by [] k m x e = e
left_by (y ∷ ys) zero zero x e = absurd (cc)
left_by (y ∷ ys) zero (suc m) x e = e
left_by (y ∷ ys) (suc k) zero x e = e
left_by (y ∷ ys) (suc k) (suc m) x e = left_by ys k m x e

pub left_in : {A : Type 0} (o : Option ℕ) (xs : List (Option A)) (m : ℕ) (x : A) → slice_get (without_item o xs) m ≡ Some (Some x) → slice_get xs m ≡ Some (Some x)
left_in None xs m x e = e
left_in (Some k) xs m x e = left_by xs k m x e

-- what stands there stays where it isn't taken out
pub left_other : {A : Type 0} (o : Option ℕ) (xs : List (Option A)) (m : ℕ) → ¬ (o ≡ Some m) → slice_get (without_item o xs) m ≡ slice_get xs m
left_other None xs m not = refl
left_other (Some k) xs m not = slice_get-set_other xs k m None (λ e. not (ap Some (sym e)))

pub taken_out : {A : Type 0} (o : Option ℕ) (xs : List (Option A)) (m : ℕ) → o ≡ Some m → m < length xs → slice_get (without_item o xs) m ≡ Some None
taken_out None xs m e l = absurd (cc)
taken_out (Some k) xs m e l =
    let is : k ≡ m = same_some e in
    ap (λ i. slice_get (set xs i None) m) is ∙ slice_get-set_same xs m None l
