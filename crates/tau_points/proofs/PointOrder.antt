-- The order and the equality of points and of pairs.
use Rattle.std.proofs.Common.{◌≡◌, ◌&&◌, ◌≤◌, ◌<◌, ℕ, Bool, true, false, not, List, length, get_or, refl, sym, ap, ◌∙◌, arith, subst, ⊎_elim}
use Rattle.std.specs.Bool.{Decides}
use Rattle.std.specs.Cmp.{IsTotalOrder, IsEquivalence}
use Rattle.std.specs.List.{AllWithin}
use Rattle.std.specs.List.Sorted.{IsPartitionedBy, IsPartitionPoint}
use Rattle.std.specs.Ordering.{is_lt, is_le, is_gt, ordering_then}
use Rattle.std.specs.declared.cmp.Ordering.{Ordering}
use Rattle.std.specs.declared.cmp.Ordering.TheVariants.{Less, Equal, Greater}
use Rattle.std.proofs.lemmas.Bool.{eqb-true, eq-eqb, and_parts, not-false}
use Rattle.std.proofs.lemmas.Cmp.{then_total, on_total, nat_cmp_total, upto, and_equiv, on_equiv, nat_eq_equiv}
use Rattle.tau_points.proofs.SortedLists.{flips}
use Rattle.std.proofs.lemmas.Map.Keys.{Less-from_sorted}
use Rattle.std.specs.Prelude.{nat_eq}
use Rattle.tau_points.specs.Order.{point_cmp, pair_cmp, IsAscendingInPairs}
use Rattle.tau_points.specs.Exact.{point_cmp-exact}
use Rattle.tau_points.specs.declared.point.Point.{Point}

pub point_cmp-total : IsTotalOrder point_cmp
point_cmp-total = then_total (on_total (λ (p : Point). p.who) nat_cmp_total) (then_total (on_total (λ (p : Point). p.interval) nat_cmp_total) (on_total (λ (p : Point). p.incarnation) nat_cmp_total))

pub pair_cmp-total : IsTotalOrder pair_cmp
pair_cmp-total = then_total (on_total (λ (x : Point × Point). x.0) point_cmp-total) (on_total (λ (x : Point × Point). x.1) point_cmp-total)

abbrev pub point_eq : Point → Point → Bool
point_eq p q = nat_eq p.who q.who && (nat_eq p.interval q.interval && nat_eq p.incarnation q.incarnation)

pub point_eq-Decides : (p q : Point) → Decides (point_eq p q) (p ≡ q)
point_eq-Decides p q = (
  λ e. let first = and_parts _ _ e in
      let second = and_parts _ _ first.1 in
      let who = eqb-true _ _ first.0 in
      let interval = eqb-true _ _ second.0 in
      let incarnation = eqb-true _ _ second.1 in
      λ i. record { who = who i; interval = interval i; incarnation = incarnation i },
  λ e. rw (eq-eqb p.who q.who (ap (λ (r : Point). r.who) e), eq-eqb p.interval q.interval (ap (λ (r : Point). r.interval) e), eq-eqb p.incarnation q.incarnation (ap (λ (r : Point). r.incarnation) e)),
)

not_true : (b : Bool) → not b ≡ true → b ≡ true → ⊥
not_true true e f = cc
not_true false e f = cc

pub point_eq-laws : IsEquivalence point_eq
point_eq-laws = and_equiv (on_equiv (λ (p : Point). p.who) nat_eq_equiv) (and_equiv (on_equiv (λ (p : Point). p.interval) nat_eq_equiv) (on_equiv (λ (p : Point). p.incarnation) nat_eq_equiv))

pub pair_eq-Decides : (x y : Point × Point) → Decides (point_eq x.0 y.0 && point_eq x.1 y.1) (x ≡ y)
pair_eq-Decides x y = (
  λ e. let parts = and_parts _ _ e in
      let from = (point_eq-Decides x.0 y.0).0 parts.0 in
      let to = (point_eq-Decides x.1 y.1).0 parts.1 in
      λ i. (from i, to i),
  λ e. rw ((point_eq-Decides x.0 y.0).1 (ap (λ (z : Point × Point). z.0) e), (point_eq-Decides x.1 y.1).1 (ap (λ (z : Point × Point). z.1) e)),
)

-- what a test of two lists says of two values that are seen as these lists
pub Decides-seen : {A : Type 0} (r : Bool) (us ts xs ys : List A) → us ≡ xs → ts ≡ ys → Decides r (us ≡ ts) → Decides r (xs ≡ ys)
Decides-seen r us ts xs ys e f h = (λ t. sym e ∙ h.0 t ∙ f, λ s. h.1 (e ∙ s ∙ sym f))

-- the sources of ascending pairs do not fall
first_not_after : (a b : Ordering) → ordering_then a b ≡ Less → is_gt a ≡ false
first_not_after Less b e = refl
first_not_after Equal b e = refl
first_not_after Greater b e = cc

source_not_after : (x y : Point × Point) → pair_cmp x y ≡ Less → is_gt (point_cmp x.0 y.0) ≡ false
source_not_after x y e = first_not_after (point_cmp x.0 y.0) (point_cmp x.1 y.1) e

-- a test of the source that holds below each source at which it holds
partitioned : (p : Point → Bool) → ((a b : Point) → is_gt (point_cmp a b) ≡ false → p b ≡ true → p a ≡ true) → (xs : List (Point × Point)) → IsAscendingInPairs xs → IsPartitionedBy (λ (x : Point × Point). p x.0) xs
partitioned p down xs s i j d le below holds =
    ⊎_elim (λ (less : i < j). down (get_or xs i d).0 (get_or xs j d).0 (source_not_after (get_or xs i d) (get_or xs j d) (Less-from_sorted pair_cmp xs i j d s less below)) holds)
    (λ (same : j ≤ i). let e : i ≡ j = omega arith in subst (λ k. p (get_or xs k d).0 ≡ true) (sym e) holds)
    (Rattle.std.proofs.lemmas.Bool.cases_lt i j)

lt_only : (o : Ordering) → is_lt o ≡ true → o ≡ Less
lt_only Less e = refl
lt_only Equal e = cc
lt_only Greater e = cc

gt_only : (o : Ordering) → is_le o ≡ false → o ≡ Greater
gt_only Less e = cc
gt_only Equal e = cc
gt_only Greater e = refl

eq_only : (o : Ordering) → is_lt o ≡ false → is_le o ≡ true → o ≡ Equal
eq_only Less e f = cc
eq_only Equal e f = refl
eq_only Greater e f = cc

not_gt_from_le : (o : Ordering) → is_le o ≡ true → is_gt o ≡ false
not_gt_from_le Less e = refl
not_gt_from_le Equal e = refl
not_gt_from_le Greater e = cc

le_from_not_gt : (o : Ordering) → is_gt o ≡ false → is_le o ≡ true
le_from_not_gt Less e = refl
le_from_not_gt Equal e = refl
le_from_not_gt Greater e = cc

lt_down_cases : (q a b : Point) (o : Ordering) → point_cmp a b ≡ o → is_gt o ≡ false → point_cmp b q ≡ Less → point_cmp a q ≡ Less
lt_down_cases q a b Less e up below = point_cmp-total.trans a b q e below
lt_down_cases q a b Equal e up below = point_cmp-total.congr a b q e ∙ below
lt_down_cases q a b Greater e up below = cc

lt_down : (q a b : Point) → is_gt (point_cmp a b) ≡ false → is_lt (point_cmp b q) ≡ true → is_lt (point_cmp a q) ≡ true
lt_down q a b up below = ap is_lt (lt_down_cases q a b (point_cmp a b) refl up (lt_only (point_cmp b q) below))

le_down : (q a b : Point) → is_gt (point_cmp a b) ≡ false → is_le (point_cmp b q) ≡ true → is_le (point_cmp a q) ≡ true
le_down q a b up below = le_from_not_gt (point_cmp a q) (upto point_cmp-total a b q up (not_gt_from_le (point_cmp b q) below))

lt_up_cases : (q a b : Point) (o : Ordering) → point_cmp a b ≡ o → is_gt o ≡ false → point_cmp q a ≡ Less → point_cmp q b ≡ Less
lt_up_cases q a b Less e up below = point_cmp-total.trans q a b below e
lt_up_cases q a b Equal e up below = subst (λ z. point_cmp q z ≡ Less) (point_cmp-exact a b e) below
lt_up_cases q a b Greater e up below = cc

-- what stands after a source that is after q has a source after q too
pub sources_after : (q : Point) (xs : List (Point × Point)) (i k : ℕ) (d : Point × Point) → IsAscendingInPairs xs → point_cmp q (get_or xs i d).0 ≡ Less → i ≤ k → k < length xs → point_cmp q (get_or xs k d).0 ≡ Less
sources_after q xs i k d s after le within =
    ⊎_elim (λ (less : i < k). lt_up_cases q (get_or xs i d).0 (get_or xs k d).0 (point_cmp (get_or xs i d).0 (get_or xs k d).0) refl
    (source_not_after (get_or xs i d) (get_or xs k d) (Less-from_sorted pair_cmp xs i k d s less within)) after)
    (λ (same : k ≤ i). let e : i ≡ k = omega arith in subst (λ n. point_cmp q (get_or xs n d).0 ≡ Less) e after)
    (Rattle.std.proofs.lemmas.Bool.cases_lt i k)

other_after : (o : Ordering) → is_lt o ≡ false → (o ≡ Equal → ⊥) → o ≡ Greater
other_after Less e f = cc
other_after Equal e f = absurd (f refl)
other_after Greater e f = refl

-- a point that is not before q and is not q is after it
pub after_other : (q a : Point) → is_lt (point_cmp a q) ≡ false → (a ≡ q → ⊥) → point_cmp q a ≡ Less
after_other q a not_before other = flips point_cmp-total a q (other_after (point_cmp a q) not_before (λ e. other (point_cmp-exact a q e)))

pub partitioned_lt : (q : Point) (xs : List (Point × Point)) → IsAscendingInPairs xs → IsPartitionedBy (λ (x : Point × Point). is_lt (point_cmp x.0 q)) xs
partitioned_lt q = partitioned (λ p. is_lt (point_cmp p q)) (lt_down q)

pub partitioned_le : (q : Point) (xs : List (Point × Point)) → IsAscendingInPairs xs → IsPartitionedBy (λ (x : Point × Point). is_le (point_cmp x.0 q)) xs
partitioned_le q = partitioned (λ p. is_le (point_cmp p q)) (le_down q)

-- the two ends of the pairs from q
pub record IsSpan (q : Point) (xs : List (Point × Point)) (first past : ℕ) : Type 0 where
  pub ordered : first ≤ past
  pub before : AllWithin (λ (x : Point × Point). point_cmp x.0 q ≡ Less) xs 0 first
  pub inside : AllWithin (λ (x : Point × Point). x.0 ≡ q) xs first past
  pub after : AllWithin (λ (x : Point × Point). point_cmp q x.0 ≡ Less) xs past (length xs)

abbrev pub any_pair : Point × Point
any_pair = (record { who = 0; interval = 0; incarnation = 0 }, record { who = 0; interval = 0; incarnation = 0 })

abbrev pub IsFirst : Point → List (Point × Point) → ℕ → Type 0
IsFirst q xs i = IsPartitionPoint (λ (x : Point × Point). is_lt (point_cmp x.0 q) ≡ true) (λ (x : Point × Point). is_lt (point_cmp x.0 q) ≡ false) xs i

abbrev pub IsPast : Point → List (Point × Point) → ℕ → Type 0
IsPast q xs j = IsPartitionPoint (λ (x : Point × Point). is_le (point_cmp x.0 q) ≡ true) (λ (x : Point × Point). is_le (point_cmp x.0 q) ≡ false) xs j

in_order : (q : Point) (xs : List (Point × Point)) (i j : ℕ) → i ≤ length xs → IsFirst q xs i → IsPast q xs j → i ≤ j
in_order q xs i j within first past =
    ⊎_elim (λ (less : j < i).
    let d : Point × Point = any_pair in
    let low : point_cmp (get_or xs j d).0 q ≡ Less = lt_only (point_cmp (get_or xs j d).0 q) (first.0 j d (omega arith) less) in
    let high : point_cmp (get_or xs j d).0 q ≡ Greater = gt_only (point_cmp (get_or xs j d).0 q) (past.1 j d (omega arith) (omega arith)) in
    cc)
    (λ (le : i ≤ j). le) (Rattle.std.proofs.lemmas.Bool.cases_lt j i)

span_of : (q : Point) (xs : List (Point × Point)) (i j : ℕ) → i ≤ length xs → IsFirst q xs i → IsPast q xs j → j ≤ length xs → IsSpan q xs i j
span_of q xs i j within first past fits = record {
  ordered = in_order q xs i j within first past;
  before = λ k d low high. lt_only (point_cmp (get_or xs k d).0 q) (first.0 k d low high);
  inside = λ k d low high. point_cmp-exact (get_or xs k d).0 q (eq_only (point_cmp (get_or xs k d).0 q) (first.1 k d low (omega arith)) (past.0 k d (omega arith) high));
  after = λ k d low high. flips point_cmp-total (get_or xs k d).0 q (gt_only (point_cmp (get_or xs k d).0 q) (past.1 k d low high));
}

-- the two ends in the pairs, which are seen as xs
pub span_read : (q : Point) (ts inside xs : List (Point × Point)) (i j : ℕ) → ts ≡ inside → inside ≡ xs → i ≤ length xs → j ≤ length ts → AllWithin (λ (x : Point × Point). point_cmp x.0 q ≡ Less) xs 0 i → AllWithin (λ (x : Point × Point). is_lt (point_cmp x.0 q) ≡ false) xs i (length xs) → IsPast q ts j → IsSpan q xs i j
span_read q ts inside xs i j f g within fits before not_before past =
    let Q : List (Point × Point) → Type 0 = λ l. (j ≤ length l) × IsPast q l j in
    let to = subst Q (f ∙ g) (fits, past) in
    span_of q xs i j within (λ k d low high. ap is_lt (before k d low high), not_before) to.1 to.0

-- the first end in the pairs, which are seen as xs
pub first_before : (q : Point) (us inside xs : List (Point × Point)) (i : ℕ) → us ≡ inside → inside ≡ xs → IsFirst q us i → AllWithin (λ (x : Point × Point). point_cmp x.0 q ≡ Less) xs 0 i
first_before q us inside xs i e f first =
    let at = subst (λ (l : List (Point × Point)). IsFirst q l i) (e ∙ f) first in
    λ k d low high. lt_only (point_cmp (get_or xs k d).0 q) (at.0 k d low high)

pub first_not_before : (q : Point) (us inside xs : List (Point × Point)) (i : ℕ) → us ≡ inside → inside ≡ xs → IsFirst q us i → AllWithin (λ (x : Point × Point). is_lt (point_cmp x.0 q) ≡ false) xs i (length xs)
first_not_before q us inside xs i e f first = (subst (λ (l : List (Point × Point)). IsFirst q l i) (e ∙ f) first).1

-- what `!=` says of two points
pub same_from_ne : (p q : Point) (r : Bool) → r ≡ not (point_eq p q) → r ≡ false → p ≡ q
same_from_ne p q r e f = (point_eq-Decides p q).0 (not-false (point_eq p q) (sym e ∙ f))

pub other_from_ne : (p q : Point) (r : Bool) → r ≡ not (point_eq p q) → r ≡ true → p ≡ q → ⊥
other_from_ne p q r e f same = not_true (point_eq p q) (sym e ∙ f) ((point_eq-Decides p q).1 same)
