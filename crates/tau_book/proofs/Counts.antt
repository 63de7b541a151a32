-- How many elements of a list pass a test, where none stands there twice.
use Rattle.std.proofs.Common.{◌≡◌, ◌≢◌, ◌↔◌, ⊎_elim, ℕ, suc, ◌+◌, ◌<◌, Bool, true, false, not, cond, eqb, eqb-true, eq-eqb, lt-ltb, le-ltb, Some, List, [], ◌∷◌, length, filter, map, refl, sym, ap, ◌∙◌, arith}
use Rattle.std.specs.List.{Contains, AllPairs}
use Rattle.std.specs.Prelude.{count_by, nat_lt, slice_get}
use Rattle.std.proofs.lemmas.List.Kept.{AllPairs-filter}
use Rattle.std.proofs.lemmas.List.Sums.{sum_by-cons}
use Rattle.tau_queue.proofs.Members.{contains_nothing, contains_here, contains_there, contains_cases, contains_filter, filter_contains}

-- what passes counts one
abbrev pub unit_of : Bool → ℕ
unit_of b = cond b 1 0

pub count_more : {X : Type 0} (p : X → Bool) (x : X) (xs : List X) → count_by p (x ∷ xs) ≡ unit_of (p x) + count_by p xs
count_more p x xs = sum_by-cons (λ y. cond (p y) 1 0) x xs

pub count_none : {X : Type 0} (p : X → Bool) (xs : List X) → ((q : X) → Contains xs q → p q ≡ false) → count_by p xs ≡ 0
count_none p [] h = refl
count_none p (x ∷ xs) h =
    let rest : count_by p xs ≡ 0 = count_none p xs (λ q c. h q (contains_there x q xs c)) in
    let here : unit_of (p x) ≡ 0 = ap unit_of (h x (contains_here x xs)) in
    count_more p x xs ∙ omega (arith, rest, here)

pub filter_same : {X : Type 0} (p : X → Bool) (xs : List X) → ((q : X) → Contains xs q → p q ≡ true) → filter p xs ≡ xs
filter_same p [] h = refl
filter_same p (x ∷ xs) h =
    let rest : filter p xs ≡ xs = filter_same p xs (λ q c. h q (contains_there x q xs c)) in
    ap (λ b. cond b (x ∷ filter p xs) (filter p xs)) (h x (contains_here x xs)) ∙ ap (λ ys. x ∷ ys) rest

-- none stands there twice
abbrev pub AreDistinct : List ℕ → Type 0
AreDistinct xs = AllPairs (λ a b. a ≢ b) xs

-- another number
abbrev pub is_other : ℕ → ℕ → Bool
is_other x y = not (eqb y x)

is_other-true : (x y : ℕ) → y ≢ x → is_other x y ≡ true
is_other-true x y ne = by (eqb y x) refl where
  by : (c : Bool) → eqb y x ≡ c → not c ≡ true
  by true e = absurd (ne (eqb-true y x e))
  by false e = refl

is_other-false : (x y : ℕ) → y ≡ x → is_other x y ≡ false
is_other-false x y e = ap not (eq-eqb y x e)

pub is_other-not : (x y : ℕ) → is_other x y ≡ true → y ≢ x
is_other-not x y says same =
    let both : false ≡ true = sym (is_other-false x y same) ∙ says in
    cc

pub distinct_tail : (x : ℕ) (xs : List ℕ) → AreDistinct (x ∷ xs) → AreDistinct xs
distinct_tail x xs h i j d l k = h (suc i) (suc j) d (omega (arith, l)) (omega (arith, k))

pub distinct_head : (x y : ℕ) (xs : List ℕ) → AreDistinct (x ∷ xs) → Contains xs y → x ≢ y
distinct_head x y xs h c same = h 0 (suc c.0) y (omega arith) (omega (arith, c.1)) (same ∙ sym c.2)

pub distinct_filter : (p : ℕ → Bool) (xs : List ℕ) → AreDistinct xs → AreDistinct (filter p xs)
distinct_filter p xs h = AllPairs-filter (λ a b. a ≢ b) p xs h

-- one of the elements, and the others
split_here : (p : ℕ → Bool) (y x : ℕ) (ys : List ℕ) → AreDistinct (y ∷ ys) → y ≡ x → count_by p (y ∷ ys) ≡ unit_of (p x) + count_by p (filter (is_other x) (y ∷ ys))
split_here p y x ys h e =
    let rest : filter (is_other x) ys ≡ ys = filter_same (is_other x) ys (λ q c. is_other-true x q (λ f. distinct_head y q ys h c (e ∙ sym f))) in
    let all : filter (is_other x) (y ∷ ys) ≡ ys = ap (λ b. cond b (y ∷ filter (is_other x) ys) (filter (is_other x) ys)) (is_other-false x y e) ∙ rest in
    count_more p y ys ∙ ap (λ z. unit_of (p z) + count_by p ys) e ∙ ap (λ zs. unit_of (p x) + count_by p zs) (sym all)

split_there : (p : ℕ → Bool) (y x : ℕ) (ys : List ℕ) → y ≢ x → count_by p ys ≡ unit_of (p x) + count_by p (filter (is_other x) ys) → count_by p (y ∷ ys) ≡ unit_of (p x) + count_by p (filter (is_other x) (y ∷ ys))
split_there p y x ys ne back =
    let all : filter (is_other x) (y ∷ ys) ≡ y ∷ filter (is_other x) ys = ap (λ b. cond b (y ∷ filter (is_other x) ys) (filter (is_other x) ys)) (is_other-true x y ne) in
    let more = count_more p y ys in
    let most = count_more p y (filter (is_other x) ys) in
    let swapped : count_by p (y ∷ ys) ≡ unit_of (p x) + count_by p (y ∷ filter (is_other x) ys) = omega (arith, more, most, back) in
    swapped ∙ ap (λ zs. unit_of (p x) + count_by p zs) (sym all)

pub count_split : (p : ℕ → Bool) (xs : List ℕ) (x : ℕ) → AreDistinct xs → Contains xs x → count_by p xs ≡ unit_of (p x) + count_by p (filter (is_other x) xs)
count_split p [] x h c = absurd (contains_nothing x c)
count_split p (y ∷ ys) x h c =
    ⊎_elim
    (λ (e : y ≡ x). split_here p y x ys h e)
    (λ (d : Contains ys x). split_there p y x ys (distinct_head y x ys h d) (count_split p ys x (distinct_tail y ys h) d))
    (contains_cases y x ys c)

-- as many pass of lists with the same elements
nothing_left : (p : ℕ → Bool) (ys : List ℕ) → ((q : ℕ) → Contains [] q ↔ Contains ys q) → count_by p [] ≡ count_by p ys
nothing_left p [] same = refl
nothing_left p (y ∷ ys) same = absurd (contains_nothing y ((same y).1 (contains_here y ys)))

rest_there : (x : ℕ) (xs ys : List ℕ) → AreDistinct (x ∷ xs) → ((q : ℕ) → Contains (x ∷ xs) q ↔ Contains ys q) → (q : ℕ) → Contains xs q → Contains (filter (is_other x) ys) q
rest_there x xs ys h same q c = contains_filter (is_other x) ys q ((same q).0 (contains_there x q xs c)) (is_other-true x q (λ e. distinct_head x q xs h c (sym e)))

rest_back : (x : ℕ) (xs ys : List ℕ) → ((q : ℕ) → Contains (x ∷ xs) q ↔ Contains ys q) → (q : ℕ) → Contains (filter (is_other x) ys) q → Contains xs q
rest_back x xs ys same q c =
    let r = filter_contains (is_other x) ys q c in
    ⊎_elim (λ (e : x ≡ q). absurd (is_other-not x q r.1 (sym e))) (λ d. d) (contains_cases x q xs ((same q).1 r.0))

pub same_counts : (p : ℕ → Bool) (xs ys : List ℕ) → AreDistinct xs → AreDistinct ys → ((q : ℕ) → Contains xs q ↔ Contains ys q) → count_by p xs ≡ count_by p ys
same_counts p [] ys hx hy same = nothing_left p ys same
same_counts p (x ∷ xs) ys hx hy same =
    let rest = filter (is_other x) ys in
    let back : count_by p xs ≡ count_by p rest = same_counts p xs rest (distinct_tail x xs hx) (distinct_filter (is_other x) ys hy) (λ q. (rest_there x xs ys hx same q, rest_back x xs ys same q)) in
    count_more p x xs ∙ ap (λ n. unit_of (p x) + n) back ∙ sym (count_split p ys x hy ((same x).0 (contains_here x xs)))

-- where an element of an ascending list stands
abbrev pub AreAscending : List ℕ → Type 0
AreAscending xs = AllPairs (λ a b. a < b) xs

pub ascending_distinct : (xs : List ℕ) → AreAscending xs → AreDistinct xs
ascending_distinct xs h i j d l k same = omega (arith, h i j d l k, same)

first_of : (x q : ℕ) (xs : List ℕ) → AreAscending (x ∷ xs) → x ≡ q → slice_get (x ∷ xs) (count_by (λ y. nat_lt y q) (x ∷ xs)) ≡ Some q
first_of x q xs h e =
    let none : count_by (λ y. nat_lt y q) xs ≡ 0 = count_none (λ y. nat_lt y q) xs (λ z c. le-ltb z q (omega (arith, h 0 (suc c.0) z (omega arith) (omega (arith, c.1)), c.2, e))) in
    let here : unit_of (nat_lt x q) ≡ 0 = ap unit_of (le-ltb x q (omega (arith, e))) in
    let all : count_by (λ y. nat_lt y q) (x ∷ xs) ≡ 0 = count_more (λ y. nat_lt y q) x xs ∙ omega (arith, none, here) in
    ap (slice_get (x ∷ xs)) all ∙ ap Some e

later_of : (x q : ℕ) (xs : List ℕ) → AreAscending (x ∷ xs) → Contains xs q → slice_get xs (count_by (λ y. nat_lt y q) xs) ≡ Some q → slice_get (x ∷ xs) (count_by (λ y. nat_lt y q) (x ∷ xs)) ≡ Some q
later_of x q xs h c back =
    let below : x < q = omega (arith, h 0 (suc c.0) q (omega arith) (omega (arith, c.1)), c.2) in
    let here : unit_of (nat_lt x q) ≡ 1 = ap unit_of (lt-ltb x q below) in
    let all : count_by (λ y. nat_lt y q) (x ∷ xs) ≡ suc (count_by (λ y. nat_lt y q) xs) = count_more (λ y. nat_lt y q) x xs ∙ omega (arith, here) in
    ap (slice_get (x ∷ xs)) all ∙ back

pub place_of : (xs : List ℕ) (q : ℕ) → AreAscending xs → Contains xs q → slice_get xs (count_by (λ y. nat_lt y q) xs) ≡ Some q
place_of [] q h c = absurd (contains_nothing q c)
place_of (x ∷ xs) q h c =
    ⊎_elim
    (λ (e : x ≡ q). first_of x q xs h e)
    (λ (d : Contains xs q). later_of x q xs h d (place_of xs q (λ i j z l k. h (suc i) (suc j) z (omega (arith, l)) (omega (arith, k))) d))
    (contains_cases x q xs c)

-- what passes of the values of a function
pub count_map : {X Y : Type 0} (p : Y → Bool) (f : X → Y) (xs : List X) → count_by p (map f xs) ≡ count_by (λ x. p (f x)) xs
count_map p f [] = refl
count_map p f (x ∷ xs) = count_more p (f x) (map f xs) ∙ ap (λ n. unit_of (p (f x)) + n) (count_map p f xs) ∙ sym (count_more (λ y. p (f y)) x xs)

-- all pass
pub count_all : {X : Type 0} (xs : List X) → count_by (λ x. true) xs ≡ length xs
count_all [] = refl
count_all (x ∷ xs) = count_more (λ y. true) x xs ∙ omega (arith, count_all xs)
