-- Sums over lists that change at one place.
use Rattle.std.proofs.Common.{◌≡◌, ℕ, zero, suc, ◌+◌, ◌<◌, ◌≤◌, ◌≢◌, List, [], ◌∷◌, ◌++◌, length, set, take, drop, get_or, cond, sym, refl, ap, ◌∙◌, arith, append-nil, append_assoc, subst}
use mathlib.Core.Logic.{dite}
use native.Mathlib.Decide.{ℕ_discrete, dec_le}
use Rattle.std.specs.Prelude.{nat_lt, nat_le, slice_index, slice_index_or}
use Rattle.std.proofs.lemmas.Bool.{lt-ltb, le-ltb, le-leb, lt-leb, eq-eqb, ne_eqb}
use mathlib.Core.Option.{some, some-injective, some-ne-none}
use lib.ListN.{get_elem?}
use Rattle.tau_seat.specs.Lists.{total, times, bit, upto, kept_if, owned, places, bare, Begins, Behind}
use Rattle.tau_seat.specs.Plays.{longer, shorter, teller_of}

module _ {A : Type 0} where
  pub total_mono : (f g : A → ℕ) (l : List A) → ((j : ℕ) (v : A) → get_elem? l j ≡ some v → f v ≤ g v) → total f l ≤ total g l
  total_mono f g [] h = omega arith
  total_mono f g (x ∷ xs) h = let a = h 0 x refl in let b = total_mono f g xs (λ j v e. h (suc j) v e) in omega (arith, a, b)

  module _ (g : A → ℕ) where
    pub total-append : (l m : List A) → total g (l ++ m) ≡ total g l + total g m
    total-append [] m = omega arith
    total-append (x ∷ xs) m = omega (arith, total-append xs m)

    pub total-set : (l : List A) (j : ℕ) (v w : A) → get_elem? l j ≡ some v → total g (set l j w) + g v ≡ total g l + g w
    total-set [] j v w e = absurd (some-ne-none v (sym e))
    total-set (x ∷ xs) zero v w e = omega (arith, ap g (some-injective x v e))
    total-set (x ∷ xs) (suc j) v w e = omega (arith, total-set xs j v w e)

    pub term_le : (l : List A) (j : ℕ) (v : A) → get_elem? l j ≡ some v → g v ≤ total g l
    term_le [] j v e = absurd (some-ne-none v (sym e))
    term_le (x ∷ xs) zero v e = omega (arith, ap g (some-injective x v e))
    term_le (x ∷ xs) (suc j) v e = omega (arith, term_le xs j v e)

    pub terms_le : (l : List A) (j k : ℕ) (v u : A) → k ≢ j → get_elem? l j ≡ some v → get_elem? l k ≡ some u → g v + g u ≤ total g l
    terms_le [] j k v u n e d = absurd (some-ne-none v (sym e))
    terms_le (x ∷ xs) zero zero v u n e d = absurd (n refl)
    terms_le (x ∷ xs) zero (suc k) v u n e d = omega (arith, ap g (some-injective x v e), term_le xs k u d)
    terms_le (x ∷ xs) (suc j) zero v u n e d = omega (arith, ap g (some-injective x u d), term_le xs j v e)
    terms_le (x ∷ xs) (suc j) (suc k) v u n e d = omega (arith, terms_le xs j k v u (λ h. n (ap suc h)) e d)

    pub cut_total : (k : ℕ) (l : List A) → total g (take k l) + total g (drop k l) ≡ total g l
    cut_total zero l = omega arith
    cut_total (suc k) [] = omega arith
    cut_total (suc k) (x ∷ xs) = omega (arith, cut_total k xs)

pub length_cut : {A : Type 0} (k : ℕ) (l : List A) → length (take k l) + length (drop k l) ≡ length l
length_cut zero l = omega arith
length_cut (suc k) [] = omega arith
length_cut (suc k) (x ∷ xs) = omega (arith, length_cut k xs)

pub length_upto : (k n : ℕ) → length (upto k n) ≡ n
length_upto k zero = refl
length_upto k (suc n) = omega (arith, length_upto (suc k) n)

-- where a number stands among those from k on
times_above : (x k n : ℕ) → x < k → times x (upto k n) ≡ 0
times_above x k zero h = refl
times_above x k (suc n) h = omega (arith, ap bit (ne_eqb k x (λ e. omega arith)), times_above x (suc k) n (omega arith))

times_upto : (x k n : ℕ) → k ≤ x → times x (upto k n) ≡ bit (nat_lt x (k + n))
times_upto x k zero h = ap bit (sym (le-ltb x (k + 0) (omega arith)))
times_upto x k (suc n) h =
    dite (ℕ_discrete k x)
    (λ e. omega (arith, ap bit (eq-eqb k x e), times_above x (suc k) n (omega arith), ap bit (lt-ltb x (k + suc n) (omega arith))))
    (λ ne. omega (arith, ap bit (ne_eqb k x ne), times_upto x (suc k) n (omega arith), ap (λ z. bit (nat_lt x z)) (let z : suc k + n ≡ k + suc n = omega arith in z)))

pub times_first : (x n : ℕ) → times x (upto 0 n) ≡ bit (nat_lt x n)
times_first x n = times_upto x 0 n (omega arith) ∙ ap (λ z. bit (nat_lt x z)) (let z : 0 + n ≡ n = omega arith in z)

pub bit_le_one : (x n : ℕ) → bit (nat_lt x n) ≤ 1
bit_le_one x n = dite (dec_le n x) (λ le. let e = ap bit (le-ltb x n le) in omega (arith, e)) (λ nle. let e = ap bit (lt-ltb x n (omega arith)) in omega (arith, e))

pub bits_add : (x n : ℕ) → bit (nat_lt x n) + bit (nat_le n x) ≡ 1
bits_add x n = dite (dec_le n x) (λ le. omega (arith, ap bit (le-ltb x n le), ap bit (le-leb n x le))) (λ nle. omega (arith, ap bit (lt-ltb x n (omega arith)), ap bit (lt-leb n x (omega arith))))

times_both : (x : ℕ) (ns ms : List ℕ) → times x (ns ++ ms) ≡ times x ns + times x ms
times_both x ns ms = total-append (λ y. bit (Rattle.std.specs.Prelude.nat_eq y x)) ns ms

module _ {E : Type 0} where
  tail_of : List E → List E
  tail_of [] = []
  tail_of (x ∷ xs) = xs

  -- of two beginnings of one list the shorter begins the longer
  pub parted : (xs ys r q : List E) → xs ++ r ≡ ys ++ q → length ys ≤ length xs → (mid : List E) × (xs ≡ ys ++ mid) × (q ≡ mid ++ r)
  parted xs [] r q e le = (xs, refl, sym e)
  parted [] (y ∷ ys) r q e le = absurd (omega (arith, le))
  parted (x ∷ xs) (y ∷ ys) r q e le =
      let t = parted xs ys r q (unfold tail_of in ap tail_of e) (omega (arith, le)) in
      let head : x ≡ y = ap (λ l. get_or l 0 x) e in
      (t.0, (λ i. head i ∷ t.1 i), t.2)

module _ {E : Type 0} where
  pub no_owner : (xs : List (E × ℕ)) → owned [] xs ≡ 0
  no_owner [] = refl
  no_owner (x ∷ xs) = omega (arith, no_owner xs)

  pub owned_append : (ns ms : List ℕ) (xs : List (E × ℕ)) → owned (ns ++ ms) xs ≡ owned ns xs + owned ms xs
  owned_append ns ms [] = refl
  owned_append ns ms (x ∷ xs) = let a = total-append (λ y. bit (Rattle.std.specs.Prelude.nat_eq y x.1)) ns ms in let b = owned_append ns ms xs in omega (arith, a, b)

  owned_cut : (k : ℕ) (ns : List ℕ) (xs : List (E × ℕ)) → owned (take k ns) xs + owned (drop k ns) xs ≡ owned ns xs
  owned_cut k ns [] = refl
  owned_cut k ns (x ∷ xs) = let a = cut_total (λ y. bit (Rattle.std.specs.Prelude.nat_eq y x.1)) k ns in let b = owned_cut k ns xs in omega (arith, a, b)

  pub owned_part : (k : ℕ) (ns : List ℕ) (xs : List (E × ℕ)) → owned ns xs ≡ 0 → (owned (take k ns) xs ≡ 0) × (owned (drop k ns) xs ≡ 0)
  owned_part k ns xs e = let c = owned_cut k ns xs in (omega (arith, c, e), omega (arith, c, e))

  pub behind_longer : (ns : List ℕ) (ys xs log : List (E × ℕ)) → Behind ns ys log → Begins xs log → length ys ≤ length xs → Behind ns ys xs
  behind_longer ns ys xs log (q, e, z) (r, d) le =
      let t = parted xs ys r q (sym d ∙ e) le in
      let a = total-append (λ (x : E × ℕ). times x.1 ns) t.0 r in
      let b = ap (owned ns) t.2 in
      (t.0, t.1, omega (arith, a, b, z))

  behind_long : (ns ms : List ℕ) (xs ys log : List (E × ℕ)) → Behind ns xs log → Behind ms ys log → length ys ≤ length xs → Behind (ns ++ ms) xs log
  behind_long ns ms xs ys log (r, e, z) (q, d, y) le =
      let t = parted xs ys r q (sym e ∙ d) le in
      let a = total-append (λ (x : E × ℕ). times x.1 ms) t.0 r in
      let b = ap (owned ms) t.2 in
      (r, e, (let c = owned_append ns ms r in omega (arith, a, b, c, z, y)))

  -- two seats as one
  pub behind_both : (ns ms : List ℕ) (xs ys log : List (E × ℕ)) → Behind ns xs log → Behind ms ys log
      → Behind (ns ++ ms) (longer xs ys) log × Behind (teller_of ns ms xs ys) (shorter xs ys) log × ((x : ℕ) → times x (teller_of ns ms xs ys) ≤ times x (ns ++ ms))
  behind_both ns ms xs ys log b c =
      dite (dec_le (length ys) (length xs))
      (λ le. subst (λ t. Behind (ns ++ ms) (cond t xs ys) log × Behind (cond t ms ns) (cond t ys xs) log × ((x : ℕ) → times x (cond t ms ns) ≤ times x (ns ++ ms))) (sym (le-leb (length ys) (length xs) le))
      (behind_long ns ms xs ys log b c le, c, (λ x. let a = times_both x ns ms in omega (arith, a))))
      (λ nle. subst (λ t. Behind (ns ++ ms) (cond t xs ys) log × Behind (cond t ms ns) (cond t ys xs) log × ((x : ℕ) → times x (cond t ms ns) ≤ times x (ns ++ ms))) (sym (lt-leb (length ys) (length xs) (omega arith)))
      (swapped ns ms ys log (behind_long ms ns ys xs log c b (omega arith)), b, (λ x. let a = times_both x ns ms in omega (arith, a))))
    where
      swapped : (ks ls : List ℕ) (zs log : List (E × ℕ)) → Behind (ls ++ ks) zs log → Behind (ks ++ ls) zs log
      swapped ks ls zs log (r, e, z) = (r, e, (let a = owned_append ks ls r in let d = owned_append ls ks r in omega (arith, a, d, z)))

  pub short_told : (xs ys : List (E × ℕ)) → length (shorter xs ys) ≤ length (longer xs ys)
  short_told xs ys =
      dite (dec_le (length ys) (length xs))
      (λ le. subst (λ t. length (cond t ys xs) ≤ length (cond t xs ys)) (sym (le-leb (length ys) (length xs) le)) le)
      (λ nle. subst (λ t. length (cond t ys xs) ≤ length (cond t xs ys)) (sym (lt-leb (length ys) (length xs) (omega arith))) (omega arith))

  pub bare_snoc : (xs : List (E × ℕ)) (e : E) (o : ℕ) → bare (xs ++ (e, o) ∷ []) ≡ bare xs ++ e ∷ []
  bare_snoc [] e o = refl
  bare_snoc (x ∷ xs) e o = ap (λ l. x.0 ∷ l) (bare_snoc xs e o)

module _ {E : Type 0} where
  pub length_bare : (xs : List (E × ℕ)) → length (bare xs) ≡ length xs
  length_bare [] = refl
  length_bare (x ∷ xs) = omega (arith, length_bare xs)

  pub bare_append : (xs ys : List (E × ℕ)) → bare (xs ++ ys) ≡ bare xs ++ bare ys
  bare_append [] ys = refl
  bare_append (x ∷ xs) ys = ap (λ l. x.0 ∷ l) (bare_append xs ys)

pub times_head : (ns : List ℕ) → 0 < length ns → 0 < times (slice_index ns 0) ns
times_head [] h = absurd (omega (arith, h))
times_head (n ∷ ns) h = let a = ap bit (eq-eqb n n refl) in omega (arith, a)

-- only one of the list counts
total_none : {A : Type 0} (f : A → ℕ) (l : List A) → ((j : ℕ) (u : A) → get_elem? l j ≡ some u → f u ≡ 0) → total f l ≡ 0
total_none f [] h = refl
total_none f (x ∷ xs) h = let a = h 0 x refl in let b = total_none f xs (λ j u e. h (suc j) u e) in omega (arith, a, b)

pub total_only : {A : Type 0} (f : A → ℕ) (l : List A) (id : ℕ) (v : A) → get_elem? l id ≡ some v → ((j : ℕ) (u : A) → j ≢ id → get_elem? l j ≡ some u → f u ≡ 0) → total f l ≡ f v
total_only f [] id v e h = absurd (some-ne-none v (sym e))
total_only f (x ∷ xs) zero v e h = let a = total_none f xs (λ j u e'. h (suc j) u (λ z. absurd (omega (arith, z))) e') in let b = ap f (some-injective x v e) in omega (arith, a, b)
total_only f (x ∷ xs) (suc id) v e h = let a = h 0 x (λ z. absurd (omega (arith, z))) refl in let b = total_only f xs id v e (λ j u ne e'. h (suc j) u (λ z. ne (omega (arith, z))) e') in omega (arith, a, b)

pub no_numbers : (ns : List ℕ) → length ns ≡ 0 → (x : ℕ) → times x ns ≡ 0
no_numbers [] e x = refl
no_numbers (n ∷ ns) e x = absurd (omega (arith, e))

module _ {E : Type 0} where
  -- who has every number below n owns each entry
  pub owns_all : (ns : List ℕ) (n : ℕ) (xs : List (E × ℕ)) → ((x : ℕ) → times x ns ≡ bit (nat_lt x n)) → total (λ (x : E × ℕ). bit (nat_le n x.1)) xs ≡ 0 → owned ns xs ≡ length xs
  owns_all ns n [] all known = refl
  owns_all ns n (x ∷ xs) all known =
      let a = bits_add x.1 n in let b = all x.1 in let c = owns_all ns n xs all (omega (arith, known)) in omega (arith, a, b, c, known)

  pub every_place : (ns : List ℕ) (n k : ℕ) (xs : List (E × ℕ)) → ((x : ℕ) → times x ns ≡ bit (nat_lt x n)) → total (λ (x : E × ℕ). bit (nat_le n x.1)) xs ≡ 0
      → places ns k xs ≡ upto k (length xs)
  every_place ns n k [] all known = refl
  every_place ns n k (x ∷ xs) all known =
      let a = bits_add x.1 n in let b = all x.1 in
      let here : times x.1 ns ≡ 1 = (omega (arith, a, b, known)) in
      let rest = every_place ns n (suc k) xs all (omega (arith, known)) in
      ap (λ z. kept_if z k ++ places ns (suc k) xs) here ∙ ap (λ l. k ∷ l) rest ∙ ap (λ z. upto k z) (let z : suc (length xs) ≡ length (x ∷ xs) = omega arith in z)

  -- the places that the seat has made are the same where others made the rest
  places_append : (ns : List ℕ) (k : ℕ) (xs ys : List (E × ℕ)) → places ns k (xs ++ ys) ≡ places ns k xs ++ places ns (k + length xs) ys
  places_append ns k [] ys = ap (λ z. places ns z ys) (let z : k ≡ k + 0 = omega arith in z)
  places_append ns k (x ∷ xs) ys =
      ap (λ l. kept_if (times x.1 ns) k ++ l) (places_append ns (suc k) xs ys)
      ∙ sym (append_assoc (kept_if (times x.1 ns) k) (places ns (suc k) xs) (places ns (suc k + length xs) ys))
      ∙ ap (λ z. (kept_if (times x.1 ns) k ++ places ns (suc k) xs) ++ places ns z ys) (let z : suc k + length xs ≡ k + suc (length xs) = omega arith in z)

  places_none : (ns : List ℕ) (k : ℕ) (xs : List (E × ℕ)) → owned ns xs ≡ 0 → places ns k xs ≡ []
  places_none ns k [] e = refl
  places_none ns k (x ∷ xs) e =
      let here : times x.1 ns ≡ 0 = omega (arith, e) in
      ap (λ z. kept_if z k ++ places ns (suc k) xs) here ∙ places_none ns (suc k) xs (omega (arith, e))

  pub places_watch : (ns : List ℕ) (xs r : List (E × ℕ)) → owned ns r ≡ 0 → places ns 0 (xs ++ r) ≡ places ns 0 xs
  places_watch ns xs r e = places_append ns 0 xs r ∙ ap (λ l. places ns 0 xs ++ l) (places_none ns (0 + length xs) r e) ∙ append-nil (places ns 0 xs)

  -- its own entry adds its place
  pub places_grow : (ns : List ℕ) (xs : List (E × ℕ)) (e : E) (o : ℕ) → 0 < times o ns → places ns 0 (xs ++ (e, o) ∷ []) ≡ places ns 0 xs ++ length xs ∷ []
  places_grow ns xs e o has = places_append ns 0 xs ((e, o) ∷ []) ∙ ap (λ l. places ns 0 xs ++ l) (grown_place (times o ns) (0 + length xs) has ∙ ap (λ k. k ∷ []) (let z : 0 + length xs ≡ length xs = omega arith in z))
    where
      grown_place : (z k : ℕ) → 0 < z → kept_if z k ++ [] ≡ k ∷ []
      grown_place zero k h = absurd (omega (arith, h))
      grown_place (suc z) k h = refl

module _ {E : Type 0} where
  pub snoc_last : (xs : List E) (a b : E) → xs ++ a ∷ [] ≡ xs ++ b ∷ [] → a ≡ b
  snoc_last [] a b e = ap (λ l. get_or l 0 a) e
  snoc_last (x ∷ xs) a b e = snoc_last xs a b (unfold tail_of in ap tail_of e)

-- two seats that have no number in common have no place in common
kept_both : (f : ℕ → ℕ) (a b k : ℕ) → a + b ≤ 1 → total f (kept_if (a + b) k) ≡ total f (kept_if a k) + total f (kept_if b k)
kept_both f zero b k le = ap (λ z. total f (kept_if z k)) (let z : 0 + b ≡ b = omega arith in z) ∙ (let z : total f (kept_if b k) ≡ 0 + total f (kept_if b k) = omega arith in z)
kept_both f (suc a) zero k le = ap (λ z. total f (kept_if z k)) (let z : suc a + 0 ≡ suc a = omega arith in z) ∙ (let z : total f (kept_if (suc a) k) ≡ total f (kept_if (suc a) k) + 0 = omega arith in z)
kept_both f (suc a) (suc b) k le = absurd (omega (arith, le))

module _ {E : Type 0} where
  places_both : (ns ms : List ℕ) (k : ℕ) (xs : List (E × ℕ)) (f : ℕ → ℕ) → ((x : ℕ) → times x (ns ++ ms) ≤ 1) → total f (places (ns ++ ms) k xs) ≡ total f (places ns k xs) + total f (places ms k xs)
  places_both ns ms k [] f apart = refl
  places_both ns ms k (x ∷ xs) f apart =
      let sum = times_both x.1 ns ms in
      let one = apart x.1 in
      let here = ap (λ z. total f (kept_if z k)) sum ∙ kept_both f (times x.1 ns) (times x.1 ms) k (omega (arith, one, sum)) in
      let rest = places_both ns ms (suc k) xs f apart in
      let a = total-append f (kept_if (times x.1 (ns ++ ms)) k) (places (ns ++ ms) (suc k) xs) in
      let b = total-append f (kept_if (times x.1 ns) k) (places ns (suc k) xs) in
      let c = total-append f (kept_if (times x.1 ms) k) (places ms (suc k) xs) in
      omega (arith, a, b, c, here, rest)

  -- the places of two seats as one are those of both
  pub mine_both : (ns ms : List ℕ) (xs ys : List (E × ℕ)) (f : ℕ → ℕ) → ((x : ℕ) → times x (ns ++ ms) ≤ 1) → Behind (teller_of ns ms xs ys) (shorter xs ys) (longer xs ys)
      → total f (places (ns ++ ms) 0 (longer xs ys)) ≡ total f (places ns 0 xs) + total f (places ms 0 ys)
  mine_both ns ms xs ys f apart =
      dite (dec_le (length ys) (length xs))
      (λ le. subst (λ t. Behind (cond t ms ns) (cond t ys xs) (cond t xs ys) → total f (places (ns ++ ms) 0 (cond t xs ys)) ≡ total f (places ns 0 xs) + total f (places ms 0 ys)) (sym (le-leb (length ys) (length xs) le))
      (λ (r, e, z). let a = places_both ns ms 0 xs f apart in let b = ap (total f) (ap (places ms 0) e ∙ places_watch ms ys r z) in omega (arith, a, b)))
      (λ nle. subst (λ t. Behind (cond t ms ns) (cond t ys xs) (cond t xs ys) → total f (places (ns ++ ms) 0 (cond t xs ys)) ≡ total f (places ns 0 xs) + total f (places ms 0 ys)) (sym (lt-leb (length ys) (length xs) (omega arith)))
      (λ (r, e, z). let a = places_both ns ms 0 ys f apart in let b = ap (total f) (ap (places ns 0) e ∙ places_watch ns xs r z) in omega (arith, a, b)))

pub longer_numbers : (ns ms : List ℕ) → 0 < length ns → 0 < length (ns ++ ms)
longer_numbers [] ms h = absurd (omega (arith, h))
longer_numbers (n ∷ ns) ms h = omega arith

module _ {E : Type 0} where
  -- no owner is n or more
  pub all_below : (n : ℕ) (xs : List (E × ℕ)) → total (λ (x : E × ℕ). bit (nat_le n x.1)) xs ≡ 0 → (k : ℕ) (d : E × ℕ) → k < length xs → (slice_index_or xs k d).1 < n
  all_below n [] none k d lt = absurd (omega (arith, lt))
  all_below n (x ∷ xs) none zero d lt = dite (dec_le n x.1) (λ le. let e = ap bit (le-leb n x.1 le) in absurd (omega (arith, e, none))) (λ nle. omega arith)
  all_below n (x ∷ xs) none (suc k) d lt = all_below n xs (omega (arith, none)) k d (omega (arith, lt))
