-- The places of words among names, and the index that keeps them.
use Rattle.std.proofs.Common.{◌≡◌, ◌≢◌, ℕ, ◌+◌, ◌<◌, ◌≤◌, Bool, true, false, cond, eqb, ltb, List, [], ◌∷◌, ◌++◌, length, Option, Some, None, get_or, AllPairs, zero, suc, ◌⊎◌, ⊎_elim, inl, inr, refl, sym, ap, subst, ◌∙◌, arith, not, is_some}
use Rattle.std.specs.List.{position_or_len, prefix_len}
use Rattle.std.specs.Option.{option_or, option_eq}
use Rattle.std.specs.Str.{bytes_eq}
use Rattle.std.specs.Map.{lookup}
use Rattle.std.proofs.lemmas.Bool.{lt-ltb, eqb-true, cases_lt}
use Rattle.std.proofs.lemmas.Bool.Decides.{nat_tests}
use Rattle.std.proofs.lemmas.List.Sums.{position_or_len_is}
use Rattle.std.proofs.lemmas.Slice.Eq.{bytes_eq-Decides}
use Rattle.std.proofs.lemmas.List.{length_push}
use Rattle.std.proofs.lemmas.List.Folds.{position_or_len_push}
use Rattle.tau_value.specs.Names.{IsName, AreNames, place_of}

pub none_from_test : {X : Type 0} → (o : Option X) → is_some o ≡ false → o ≡ None
none_from_test None h = refl
none_from_test (Some x) h = cc

-- a look-up in entries with one more at the end
pub lookup-push : {K X : Type 0} → (p : K → Bool) (es : List (K × X)) (k : K) (x : X) → lookup p (es ++ (k, x) ∷ []) ≡ option_or (lookup p es) (cond (p k) (Some x) None)
lookup-push p [] k x = refl
lookup-push p (e ∷ es) k x = by (p e.0) (lookup-push p es k x)
  where
    by : (b : Bool) → lookup p (es ++ (k, x) ∷ []) ≡ option_or (lookup p es) (cond (p k) (Some x) None) → cond b (Some e.1) (lookup p (es ++ (k, x) ∷ [])) ≡ option_or (cond b (Some e.1) (lookup p es)) (cond (p k) (Some x) None)
    by true h = refl
    by false h = h

front-le : {X : Type 0} → (p : X → Bool) (xs : List X) → prefix_len p xs ≤ length xs
front-le p [] = omega arith
front-le p (x ∷ xs) = by (p x) (front-le p xs)
  where
    by : (b : Bool) → prefix_len p xs ≤ length xs → cond b (1 + prefix_len p xs) 0 ≤ length (x ∷ xs)
    by true h = omega arith
    by false h = omega arith

place_from : (n l m : ℕ) (t : Bool) → n ≤ l → m ≡ l + 1 → cond (ltb (cond (eqb n l) (l + cond t 0 1) n) m) (Some (cond (eqb n l) (l + cond t 0 1) n)) None ≡ option_or (cond (ltb n l) (Some n) None) (cond t (Some l) None)
place_from n l m true h e = grind (arith, nat_tests)
place_from n l m false h e = grind (arith, nat_tests)

-- a word that is added at the end keeps the places of all others
pub place-push : (names : List (List ℕ)) (w v : List ℕ) → place_of (names ++ w ∷ []) v ≡ option_or (place_of names v) (cond (bytes_eq v w) (Some (length names)) None)
place-push names w v =
    let n = position_or_len (bytes_eq v) names in
    let l = length names in
    let h : n ≤ l = front-le (λ x. not (bytes_eq v x)) names in
    rw (position_or_len_push (bytes_eq v) names w) (place_from n l (length (names ++ w ∷ [])) (bytes_eq v w) h (length_push names w))

-- words that differ
pub apart_bytes : (v w : List ℕ) → v ≢ w → bytes_eq v w ≡ false
apart_bytes v w ne = by (bytes_eq v w) refl
  where
    by : (b : Bool) → bytes_eq v w ≡ b → b ≡ false
    by true e = absurd (ne ((bytes_eq-Decides v w).0 e))
    by false e = refl

-- a start's name is found at its number
pub place_of-at : (names : List (List ℕ)) (n : ℕ) (w : List ℕ) → AllPairs (λ v u. v ≢ u) names → n < length names → get_or names n w ≡ w → place_of names w ≡ Some n
place_of-at names n w distinct lt is =
    let before : (k : ℕ) → k < n → bytes_eq w (get_or names k w) ≡ false = λ k below. apart_bytes w (get_or names k w) (λ e. distinct k n w below lt (sym e ∙ sym is)) in
    let found : n < length names → bytes_eq w (get_or names n w) ≡ true = λ h. (bytes_eq-Decides w (get_or names n w)).1 (sym is) in
    let place : position_or_len (bytes_eq w) names ≡ n = position_or_len_is (bytes_eq w) names n w (omega arith) before found in
    rw (place, lt-ltb n (length names) lt) refl

pub last_or_below : (j n : ℕ) → j < n + 1 → (j < n) ⊎ (j ≡ n)
last_or_below j n h = ⊎_elim inl (λ ge. inr (omega (arith, h))) (cases_lt j n)

get_or_any : {X : Type 0} → (xs : List X) (n : ℕ) (d e : X) → n < length xs → get_or xs n d ≡ get_or xs n e
get_or_any [] n d e lt = absurd (omega arith)
get_or_any (x ∷ xs) zero d e lt = refl
get_or_any (x ∷ xs) (suc n) d e lt = get_or_any xs n d e (omega arith)

-- a list of names, each of which is found at its own place
pub record AreFound (names : List (List ℕ)) (n : ℕ) : Type 0 where
  pub named : (j : ℕ) (d : List ℕ) → j < n → IsName (get_or names j d)
  pub found : (j : ℕ) (d : List ℕ) → j < n → place_of names (get_or names j d) ≡ Some j

pub are_names-found : (names : List (List ℕ)) (n : ℕ) → length names ≤ n → AreFound names n → AreNames names
are_names-found names n all h = record { named = λ k d lt. h.named k d (omega arith); distinct = distinct }
  where
    distinct : (i j : ℕ) (d : List ℕ) → i < j → j < length names → get_or names i d ≢ get_or names j d
    distinct i j d below lt e =
        let same : Some i ≡ Some j = sym (h.found i d (omega arith)) ∙ ap (place_of names) e ∙ h.found j d (omega arith) in
        let equal : i ≡ j = cc in
        omega arith

-- one more name that is found at its own place
pub AreFound-more : (names : List (List ℕ)) (n : ℕ) (w : List ℕ) → AreFound names n → n < length names → get_or names n w ≡ w → IsName w → place_of names w ≡ Some n → AreFound names (n + 1)
AreFound-more names n w h lt is named found = record { named = more_named; found = more_found }
  where
    here : (d : List ℕ) → get_or names n d ≡ w
    here d = get_or_any names n d w lt ∙ is

    more_named : (j : ℕ) (d : List ℕ) → j < n + 1 → IsName (get_or names j d)
    more_named j d below = ⊎_elim (λ less. h.named j d less) (λ last. subst IsName (sym (ap (λ i. get_or names i d) last ∙ here d)) named) (last_or_below j n below)

    more_found : (j : ℕ) (d : List ℕ) → j < n + 1 → place_of names (get_or names j d) ≡ Some j
    more_found j d below = ⊎_elim (λ less. h.found j d less) (λ last. ap (place_of names) (ap (λ i. get_or names i d) last ∙ here d) ∙ found ∙ ap Some (sym last)) (last_or_below j n below)

-- the answer of `==` on places
pub some_from_eq : (o : Option ℕ) (n : ℕ) → option_eq eqb o (Some n) ≡ true → o ≡ Some n
some_from_eq None n h = cc
some_from_eq (Some m) n h = ap Some (eqb-true m n h)
