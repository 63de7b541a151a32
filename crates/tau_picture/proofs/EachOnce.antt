-- Lines that are told of each place, or of each item of a list.
use Rattle.std.proofs.Common.{◌≡◌, ℕ, List, [], ◌∷◌, ◌++◌, length, length-append, refl, sym, ap, ◌∙◌, subst, arith}
use Rattle.std.specs.Prelude.{slice_get}
use Rattle.std.proofs.lemmas.List.{append_cancel_right}
use Rattle.tau_svg.specs.Markup.Lines.{Line}
use Rattle.tau_trace.proofs.Lists.{same_some, slice_get-last}
use Rattle.tau_svg.specs.Shapes.Each.{EachPlace, no_place, next_place, EachItem, no_item, next_item}

-- lines of which P tells at each place, where Q tells what P does
pub each_as : (P Q : ℕ → List Line → Type 0) (a b : ℕ) → ((k : ℕ) (ls : List Line) → P k ls → Q k ls) → (ls : List Line) → EachPlace P a b ls → EachPlace Q a b ls
each_as P Q a b to ls no_place = no_place
each_as P Q a b to ls (next_place {b = c} {ls = l} {ks = m} x p) = next_place (each_as P Q a c to l x) (to c m p)

pub items_as : {A : Type 0} (P Q : A → List Line → Type 0) → ((x : A) (ls : List Line) → P x ls → Q x ls) → (xs : List A) (ls : List Line) → EachItem P xs ls → EachItem Q xs ls
items_as P Q to xs ls no_item = no_item
items_as P Q to xs ls (next_item {xs = front} {x = x} {ls = l} {ks = m} more p) = next_item (items_as P Q to front l more) (to x m p)

-- the last item of a list is one, and so are those before it
pub last_same : {A : Type 0} (xs ys : List A) (x y : A) → xs ++ x ∷ [] ≡ ys ++ y ∷ [] → x ≡ y
last_same xs ys x y e =
    let size : length xs ≡ length ys = omega (arith, ap length e, length-append xs (x ∷ []), length-append ys (y ∷ [])) in
    same_some (sym (slice_get-last xs x) ∙ (λ i. slice_get (e i) (size i)) ∙ slice_get-last ys y)

front_same : {A : Type 0} (xs ys : List A) (x y : A) → xs ++ x ∷ [] ≡ ys ++ y ∷ [] → xs ≡ ys
front_same xs ys x y e = append_cancel_right xs ys (x ∷ []) (e ∙ ap (λ z. ys ++ z ∷ []) (sym (last_same xs ys x y e)))

items_same : {A : Type 0} (P : A → List Line → Type 0) → ((x : A) (ls ks : List Line) → P x ls → P x ks → ls ≡ ks) → (xs ys : List A) (ls ks : List Line) → xs ≡ ys → EachItem P xs ls → EachItem P ys ks → ls ≡ ks
items_same P once xs ys ls ks e no_item no_item = refl
items_same P once xs ys ls ks e no_item (next_item {xs = ws} {x = w} y q) = absurd (omega (arith, ap length e, length-append ws (w ∷ [])))
items_same P once xs ys ls ks e (next_item {xs = vs} {x = v} x p) no_item = absurd (omega (arith, ap length e, length-append vs (v ∷ [])))
items_same P once xs ys ls ks e (next_item {xs = vs} {x = v} {ls = l} {ks = m} x p) (next_item {xs = ws} {x = w} {ls = n} {ks = o} y q) =
    let first : l ≡ n = items_same P once vs ws l n (front_same vs ws v w e) x y in
    let last : m ≡ o = once w m o (subst (λ z. P z m) (last_same vs ws v w e) p) q in
    cc

pub items_once : {A : Type 0} (P : A → List Line → Type 0) → ((x : A) (ls ks : List Line) → P x ls → P x ks → ls ≡ ks) → (xs : List A) (ls ks : List Line) → EachItem P xs ls → EachItem P xs ks → ls ≡ ks
items_once P once xs ls ks x y = items_same P once xs xs ls ks refl x y
