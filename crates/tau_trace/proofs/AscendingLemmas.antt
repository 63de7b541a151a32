-- Ascending lists of numbers, and one taken out.
use Rattle.std.proofs.Common.{◌≡◌, ◌≢◌, ◌↔◌, ◌⊎◌, inl, inr, ⊎_elim, ℕ, zero, suc, ◌+◌, ◌-◌, ◌<◌, ◌≤◌, List, [], ◌∷◌, ◌++◌, length, get_or, remove, All, Contains, refl, sym, ap, ◌∙◌, subst, arith}
use Rattle.std.proofs.lemmas.List.{get_or_default}
use Rattle.std.proofs.lemmas.List.Edits.{length-remove, get_or-remove_below, get_or-remove_above}
use Rattle.tau_trace.specs.Ascending.{IsAscending}

from_or_below : (i k : ℕ) → (k < i) ⊎ (i ≤ k)
from_or_below i k = grind arith

apart : (j k : ℕ) → j ≢ k → (j < k) ⊎ (k < j)
apart j k ne = grind arith

pub ascending-remove : (xs : List ℕ) (i : ℕ) → i < length xs → IsAscending xs → IsAscending (remove xs i)
ascending-remove xs i lt up j k d l within = ⊎_elim below above (from_or_below i k) where
  short : length (remove xs i) + 1 ≡ length xs
  short = length-remove xs i lt

  below : k < i → get_or (remove xs i) j d < get_or (remove xs i) k d
  below b = omega (arith, up j k d l (omega arith), get_or-remove_below xs i d j (omega arith) lt, get_or-remove_below xs i d k b lt)

  above : i ≤ k → get_or (remove xs i) j d < get_or (remove xs i) k d
  above a = ⊎_elim
      (λ b. omega (arith, up j (k + 1) d (omega arith) (omega (arith, short)), get_or-remove_below xs i d j b lt, get_or-remove_above xs i d k a lt))
      (λ b. omega (arith, up (j + 1) (k + 1) d (omega arith) (omega (arith, short)), get_or-remove_above xs i d j b lt, get_or-remove_above xs i d k a lt))
      (from_or_below i j)

-- two places of an ascending list hold different numbers
differ : (xs : List ℕ) (i j d : ℕ) → IsAscending xs → i < length xs → j < length xs → i ≢ j → get_or xs i d ≢ get_or xs j d
differ xs i j d up a b ne e = ⊎_elim (λ l. omega (arith, up i j d l b, e)) (λ l. omega (arith, up j i d l a, e)) (apart i j ne)

pub members-remove : (xs : List ℕ) (i x : ℕ) → IsAscending xs → i < length xs → get_or xs i 0 ≡ x → (n : ℕ) → Contains (remove xs i) n ↔ (Contains xs n × (n ≢ x))
members-remove xs i x up lt here n = (to, from) where
  short : length (remove xs i) + 1 ≡ length xs
  short = length-remove xs i lt

  at : get_or xs i n ≡ x
  at = get_or_default xs i n 0 lt ∙ here

  other : (k : ℕ) → k < length xs → k ≢ i → get_or xs k n ≡ n → Contains xs n × (n ≢ x)
  other k l ne e = ((k, l, e), λ f. differ xs k i n up l lt ne (e ∙ f ∙ sym at))

  to : Contains (remove xs i) n → Contains xs n × (n ≢ x)
  to c = ⊎_elim
      (λ b. other c.0 (omega (arith, c.1, short)) (omega arith) (sym (get_or-remove_below xs i n c.0 b lt) ∙ c.2))
      (λ a. other (c.0 + 1) (omega (arith, c.1, short)) (omega arith) (sym (get_or-remove_above xs i n c.0 a lt) ∙ c.2))
      (from_or_below i c.0)

  later : (c : Contains xs n) → i < c.0 → Contains (remove xs i) n
  later c l =
      let back : c.0 - 1 + 1 ≡ c.0 = omega arith in
      (c.0 - 1, omega (arith, c.1, short), get_or-remove_above xs i n (c.0 - 1) (omega arith) lt ∙ ap (λ k. get_or xs k n) back ∙ c.2)

  from : Contains xs n × (n ≢ x) → Contains (remove xs i) n
  from p =
      let c = p.0 in
      let ne : c.0 ≢ i = λ e. p.1 (sym c.2 ∙ ap (λ k. get_or xs k n) e ∙ at) in
      ⊎_elim
      (λ b. (c.0, omega (arith, c.1, short), get_or-remove_below xs i n c.0 b lt ∙ c.2))
      (λ l. later c l)
      (apart c.0 i ne)

-- a number that a search doesn't find is no member
pub absent : (xs : List ℕ) (i x : ℕ) → ((k : ℕ) → k < i → get_or xs k 0 < x) → ((k : ℕ) → i ≤ k → k < length xs → x < get_or xs k 0) → (n : ℕ) → Contains xs n → n ≢ x
absent xs i x below above n c e =
    let is : get_or xs c.0 0 ≡ n = get_or_default xs c.0 0 n c.1 ∙ c.2 in
    ⊎_elim (λ b. omega (arith, below c.0 b, is, e)) (λ a. omega (arith, above c.0 a c.1, is, e)) (from_or_below i c.0)

-- the same list with nothing taken out
pub members-kept : (xs : List ℕ) (i x : ℕ) → ((k : ℕ) → k < i → get_or xs k 0 < x) → ((k : ℕ) → i ≤ k → k < length xs → x < get_or xs k 0) → (n : ℕ) → Contains xs n ↔ (Contains xs n × (n ≢ x))
members-kept xs i x below above n = (λ c. (c, absent xs i x below above n c), λ p. p.0)

pub not_falling : (xs : List ℕ) → IsAscending xs → (i j : ℕ) → i ≤ j → j < length xs → get_or xs i 0 ≤ get_or xs j 0
not_falling xs up i j l lt = ⊎_elim (λ b. omega (arith, up i j 0 b lt)) (λ a. omega (arith, ap (λ k. get_or xs k 0) (let e : i ≡ j = omega arith in e))) (from_or_below j i)
