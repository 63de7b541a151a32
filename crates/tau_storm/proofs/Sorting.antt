-- Outcomes in order.
use Rattle.std.proofs.Common.{◌≡◌, ◌≢◌, ◌⊎◌, inl, inr, ⊎_elim, ℕ, ◌<◌, Bool, true, false, List, [], ◌∷◌, ◌++◌, append_assoc, get_or, AllPairs, IsPermutation, IsSorted, refl, sym, ap, ◌∙◌, subst, arith, is_lt}
use Rattle.std.specs.Str.{bytes_eq}
use Rattle.std.specs.Ordering.{nat_cmp, ordering_then, ordering_reverse}
use Rattle.std.specs.declared.cmp.Ordering.{Ordering}
use Rattle.std.specs.declared.cmp.Ordering.TheVariants.{Less, Equal, Greater}
use Rattle.std.specs.Cmp.{IsTotalOrder, ranks}
use Rattle.std.specs.Cmp.Lexicographic.{slice_cmp}
use Rattle.std.proofs.lemmas.Cmp.{by_ranked, nat_cmp_total, nat_list_cmp_total, on_total, then_total}
use Rattle.std.proofs.lemmas.List.Sorted.{ranks_by, sorted_far, All-permutation, Contains-permutation, IsPermutation-sym, IsPermutation-trans, IsPermutation-append_right, IsPermutation-to_front}
use Rattle.std.proofs.lemmas.Map.Keys.{IsDistinct-IsPermutation, IsDistinct-from_apart, apart_from_distinct}
use Rattle.std.proofs.lemmas.Slice.Eq.{bytes_eq-Decides}
use Rattle.tau_faults.specs.Ends.{End}
use Rattle.tau_storm.specs.declared.outcomes.Outcome.{Outcome}
use Rattle.tau_storm.specs.Outcomes.{IsOutcome, AreOutcomes}
use Rattle.tau_storm.specs.Order.{AreBytesBefore, ends, lesser, goes_on, ComesBefore, by_faults, by_steps, by_lines, AreOrdered}
use Rattle.tau_storm.specs.Inner.Ordered.{outcome_cmp}

pub outcome_total : IsTotalOrder outcome_cmp
outcome_total = then_total (then_total (on_total (λ (o : Outcome). o.faults) nat_cmp_total) (on_total (λ (o : Outcome). o.steps) nat_cmp_total)) (on_total (λ (o : Outcome). o.lines) nat_list_cmp_total)

-- what a comparison of bytes says

then_rest : (o r : Ordering) (s : Ordering) → o ≡ Equal → ordering_then o r ≡ s → r ≡ s
then_rest o r s e h = sym (ap (λ (x : Ordering). ordering_then x r) e) ∙ h

bytes_less : (xs ys : List ℕ) → slice_cmp nat_cmp xs ys ≡ Less → AreBytesBefore xs ys
bytes_less [] [] h = absurd (cc)
bytes_less [] (y ∷ ys) h = ends
bytes_less (x ∷ xs) [] h = absurd (cc)
bytes_less (x ∷ xs) (y ∷ ys) h = by_ranked (x < y) (x ≡ y) (y < x) (nat_cmp x y) (ranks x y)
    (λ e lt. lesser lt)
    (λ e same. subst (λ (n : ℕ). AreBytesBefore (x ∷ xs) (n ∷ ys)) same (goes_on (bytes_less xs ys (then_rest (nat_cmp x y) (slice_cmp nat_cmp xs ys) Less e h))))
    (λ e gt. let both : Greater ≡ Less = sym (ap (λ (o : Ordering). ordering_then o (slice_cmp nat_cmp xs ys)) e) ∙ h in absurd (cc))

bytes_equal : (xs ys : List ℕ) → slice_cmp nat_cmp xs ys ≡ Equal → xs ≡ ys
bytes_equal [] [] h = refl
bytes_equal [] (y ∷ ys) h = absurd (cc)
bytes_equal (x ∷ xs) [] h = absurd (cc)
bytes_equal (x ∷ xs) (y ∷ ys) h = by_ranked (x < y) (x ≡ y) (y < x) (nat_cmp x y) (ranks x y)
    (λ e lt. let both : Less ≡ Equal = sym (ap (λ (o : Ordering). ordering_then o (slice_cmp nat_cmp xs ys)) e) ∙ h in absurd (cc))
    (λ e same. let rest = bytes_equal xs ys (then_rest (nat_cmp x y) (slice_cmp nat_cmp xs ys) Equal e h) in λ i. same i ∷ rest i)
    (λ e gt. let both : Greater ≡ Equal = sym (ap (λ (o : Ordering). ordering_then o (slice_cmp nat_cmp xs ys)) e) ∙ h in absurd (cc))

-- and one of outcomes

abbrev fronts : Outcome → Outcome → Ordering
fronts a b = ordering_then (nat_cmp a.faults b.faults) (nat_cmp a.steps b.steps)

front_less : (f g s t : ℕ) → ordering_then (nat_cmp f g) (nat_cmp s t) ≡ Less → (f < g) ⊎ ((f ≡ g) × (s < t))
front_less f g s t h = by_ranked (f < g) (f ≡ g) (g < f) (nat_cmp f g) (ranks f g)
    (λ e lt. inl lt)
    (λ e same. by_ranked (s < t) (s ≡ t) (t < s) (nat_cmp s t) (ranks s t)
    (λ e2 lt. inr (same, lt))
    (λ e2 eq. let both : Equal ≡ Less = sym e2 ∙ then_rest (nat_cmp f g) (nat_cmp s t) Less e h in absurd (cc))
    (λ e2 gt. let both : Greater ≡ Less = sym e2 ∙ then_rest (nat_cmp f g) (nat_cmp s t) Less e h in absurd (cc)))
    (λ e gt. let both : Greater ≡ Less = sym (ap (λ (o : Ordering). ordering_then o (nat_cmp s t)) e) ∙ h in absurd (cc))

front_equal : (f g s t : ℕ) → ordering_then (nat_cmp f g) (nat_cmp s t) ≡ Equal → (f ≡ g) × (s ≡ t)
front_equal f g s t h = by_ranked (f < g) (f ≡ g) (g < f) (nat_cmp f g) (ranks f g)
    (λ e lt. let both : Less ≡ Equal = sym (ap (λ (o : Ordering). ordering_then o (nat_cmp s t)) e) ∙ h in absurd (cc))
    (λ e same. by_ranked (s < t) (s ≡ t) (t < s) (nat_cmp s t) (ranks s t)
    (λ e2 lt. let both : Less ≡ Equal = sym e2 ∙ then_rest (nat_cmp f g) (nat_cmp s t) Equal e h in absurd (cc))
    (λ e2 eq. (same, eq))
    (λ e2 gt. let both : Greater ≡ Equal = sym e2 ∙ then_rest (nat_cmp f g) (nat_cmp s t) Equal e h in absurd (cc)))
    (λ e gt. let both : Greater ≡ Equal = sym (ap (λ (o : Ordering). ordering_then o (nat_cmp s t)) e) ∙ h in absurd (cc))

-- a first comparison that decides
then_less : (o r : Ordering) → ordering_then o r ≡ Less → (o ≡ Less) ⊎ ((o ≡ Equal) × (r ≡ Less))
then_less Less r h = inl refl
then_less Equal r h = inr (refl, h)
then_less Greater r h = absurd (cc)

then_equal : (o r : Ordering) → ordering_then o r ≡ Equal → r ≡ Equal
then_equal Less r h = absurd (cc)
then_equal Equal r h = h
then_equal Greater r h = absurd (cc)

less_before : (a b : Outcome) → outcome_cmp a b ≡ Less → ComesBefore a b
less_before a b h = ⊎_elim
    (λ first. ⊎_elim (λ lt. by_faults lt) (λ p. by_steps p.0 p.1) (front_less a.faults b.faults a.steps b.steps first))
    (λ later. let same = front_equal a.faults b.faults a.steps b.steps later.0 in by_lines same.0 same.1 (bytes_less a.lines b.lines later.1))
    (then_less (fronts a b) (slice_cmp nat_cmp a.lines b.lines) h)

equal_lines : (a b : Outcome) → outcome_cmp a b ≡ Equal → a.lines ≡ b.lines
equal_lines a b h = bytes_equal a.lines b.lines (then_equal (fronts a b) (slice_cmp nat_cmp a.lines b.lines) h)

in_turn : (a b : Outcome) → a.lines ≢ b.lines → is_lt (outcome_cmp b a) ≡ false → ComesBefore a b
in_turn a b ne isnt = by (outcome_cmp a b) refl where
  by : (o : Ordering) → outcome_cmp a b ≡ o → ComesBefore a b
  by Less e = less_before a b e
  by Equal e = absurd (ne (equal_lines a b e))
  by Greater e =
      let back : outcome_cmp b a ≡ Less = outcome_total.antisymm b a ∙ ap ordering_reverse e in
      let both : true ≡ false = sym (ap is_lt back) ∙ isnt in absurd (cc)

sorted_pairs : (os : List Outcome) → IsSorted outcome_cmp os → AllPairs (λ a b. a.lines ≢ b.lines) os → AllPairs ComesBefore os
sorted_pairs os sorted once i j d less lt =
    in_turn (get_or os i d) (get_or os j d) (once i j d less lt) (sorted_far (λ x y. is_lt (outcome_cmp x y)) (ranks_by outcome_total (λ o. o)) os sorted i j d (omega (arith, less)) lt)

-- outcomes in another order

abbrev same_lines : Outcome → Outcome → Bool
same_lines a b = bytes_eq a.lines b.lines

differ : (a b : Outcome) → a.lines ≢ b.lines → same_lines a b ≡ false
differ a b ne = by (bytes_eq a.lines b.lines) refl where
  by : (x : Bool) → bytes_eq a.lines b.lines ≡ x → x ≡ false
  by true e = absurd (ne ((bytes_eq-Decides a.lines b.lines).0 e))
  by false e = refl

apart : (a b : Outcome) → same_lines a b ≡ false → a.lines ≢ b.lines
apart a b isnt e = let both : true ≡ false = sym ((bytes_eq-Decides a.lines b.lines).1 e) ∙ isnt in cc

flips : (a b : Outcome) → same_lines a b ≡ same_lines b a
flips a b = by (same_lines a b) refl where
  by : (x : Bool) → same_lines a b ≡ x → same_lines a b ≡ same_lines b a
  by true e = e ∙ sym ((bytes_eq-Decides b.lines a.lines).1 (sym ((bytes_eq-Decides a.lines b.lines).0 e)))
  by false e = e ∙ sym (differ b a (λ x. apart a b e (sym x)))

once_permuted : (os ys : List Outcome) → IsPermutation os ys → AllPairs (λ a b. a.lines ≢ b.lines) os → AllPairs (λ a b. a.lines ≢ b.lines) ys
once_permuted os ys p once =
    let distinct = IsDistinct-from_apart same_lines os (λ i j d less lt. differ (get_or os i d) (get_or os j d) (once i j d less lt)) in
    let after = IsDistinct-IsPermutation same_lines flips os ys p distinct in
    λ i j d less lt. apart (get_or ys i d) (get_or ys j d) (apart_from_distinct same_lines ys i j d after less lt)

pub ordered_of : (all : List End) (os ys : List Outcome) → IsPermutation os ys → IsSorted outcome_cmp ys → AreOutcomes all os → AreOrdered all ys
ordered_of all os ys p sorted are =
    let once = once_permuted os ys p are.once in
    record {
      are = record {
        each = All-permutation (IsOutcome all) os ys p are.each;
        once = once;
        whole = λ e c. let w = are.whole e c in (w.0, Contains-permutation os ys w.0 p w.1, w.2);
      };
      ordered = sorted_pairs ys sorted once;
    }

-- a row that is taken off becomes an outcome behind the others
pub told_more : (all rows left : List Outcome) (done now : List Outcome) (o : Outcome) → IsPermutation all (rows ++ done) → rows ≡ left ++ o ∷ [] → now ≡ done ++ o ∷ [] → IsPermutation all (left ++ now)
told_more all rows left done now o p is more =
    let there : rows ++ done ≡ left ++ o ∷ done = ap (λ (l : List Outcome). l ++ done) is ∙ append_assoc left (o ∷ []) done in
    let turned : IsPermutation (left ++ o ∷ done) (left ++ now) = IsPermutation-append_right left (o ∷ done) now (subst (IsPermutation (o ∷ done)) (sym more) (IsPermutation-sym (done ++ o ∷ []) (o ∷ done) (IsPermutation-to_front done o))) in
    IsPermutation-trans all (rows ++ done) (left ++ now) p (subst (λ (l : List Outcome). IsPermutation l (left ++ now)) (sym there) turned)
