-- How many letters are for the receivers in a turn.
use Rattle.std.proofs.Common.{◌≡◌, ◌≢◌, ℕ, suc, ◌<◌, ◌≤◌, ◌+◌, ◌-◌, Bool, true, false, eqb, ◌||◌, List, [], ◌∷◌, ◌++◌, length, get_or, take, filter, slice_get, Some, add-one, eqb-true, sym, refl, ap, ◌∙◌, subst, ⊎_elim, arith}
use Rattle.std.proofs.lemmas.Bool.{cases_lt}
use Rattle.std.proofs.lemmas.Bool.Decides.{nat_tests}
use Rattle.std.proofs.lemmas.List.{length-take, length-take-le, take_all, take_more, get_or-take, get_or_default}
use Rattle.std.proofs.lemmas.Option.{unwrap_or-slice_get}
use Rattle.std.specs.Prelude.{unwrap_or}
use Rattle.std.proofs.lemmas.List.Filters.{length-filter_both}
use Rattle.std.proofs.lemmas.List.Folds.{list_any_none}
use Rattle.tau_mailbox.specs.declared.letter.Letter.{Letter}
use Rattle.tau_mailbox.specs.Letters.{is_to, is_for, IsAscending}
use Rattle.tau_mailbox.specs.MailState.{is_busy, is_blocked, is_deliverable, AllDiffer}
use Rattle.tau_mailbox.proofs.Lists.{filter-comm, filter-none, length-filter-le, filter-take-le, nth-filter}
use Rattle.tau_mailbox.proofs.Search.{to-place}

-- a receiver that differs from those before it isn't one of them
pub fresh-receiver : (busy : List ℕ) (i d : ℕ) → AllDiffer busy → i < length busy → is_busy (take i busy) (get_or busy i d) ≡ false
fresh-receiver busy i d differ lt =
    list_any_none (λ b. eqb b (get_or busy i d)) (take i busy)
    (λ k e within.
    let short : k < i = omega (arith, within, length-take-le i busy (omega (arith, lt))) in
    let apart : get_or busy k d ≢ get_or busy i d = differ k i d short lt in
    rw (get_or-take i busy k e short, get_or_default busy k e d (omega (arith, short, lt))) (grind (arith, nat_tests, apart)))

-- one more receiver in a turn
busy-more : (busy : List ℕ) (q r : ℕ) → is_busy (busy ++ q ∷ []) r ≡ (is_busy busy r || eqb q r)
busy-more [] q r = grind (arith, nat_tests)
busy-more (b ∷ busy) q r = by (eqb b r) (busy-more busy q r)
  where
    by : (t : Bool) → is_busy (busy ++ q ∷ []) r ≡ (is_busy busy r || eqb q r) → (t || is_busy (busy ++ q ∷ []) r) ≡ ((t || is_busy busy r) || eqb q r)
    by true h = refl
    by false h = h

-- the letters for it are blocked besides those that were
blocked-more : (t : Letter → Bool) (busy : List ℕ) (q : ℕ) (ls : List Letter) → is_busy busy q ≡ false
    → length (filter t (filter (is_blocked (busy ++ q ∷ [])) ls)) ≡ length (filter t (filter (is_blocked busy) ls)) + length (filter t (filter (is_for q) ls))
blocked-more t busy q [] fresh = omega arith
blocked-more t busy q (l ∷ ls) fresh = by (is_busy busy l.who) (eqb l.who q) (t l) refl refl refl (blocked-more t busy q ls fresh)
  where
    by : (a b c : Bool) → is_busy busy l.who ≡ a → eqb l.who q ≡ b → t l ≡ c
        → length (filter t (filter (is_blocked (busy ++ q ∷ [])) ls)) ≡ length (filter t (filter (is_blocked busy) ls)) + length (filter t (filter (is_for q) ls))
        → length (filter t (filter (is_blocked (busy ++ q ∷ [])) (l ∷ ls))) ≡ length (filter t (filter (is_blocked busy) (l ∷ ls))) + length (filter t (filter (is_for q) (l ∷ ls)))
    by true true c ea eb ec h = absurd (let e : is_busy busy q ≡ true = subst (λ r. is_busy busy r ≡ true) (eqb-true l.who q eb) ea in cc)
    by true false true ea eb ec h = let more : is_blocked (busy ++ q ∷ []) l ≡ true = rw (busy-more busy q l.who, ea) refl in rw (more, ea, eb, ec) (omega (arith, h))
    by true false false ea eb ec h = let more : is_blocked (busy ++ q ∷ []) l ≡ true = rw (busy-more busy q l.who, ea) refl in rw (more, ea, eb, ec) (omega (arith, h))
    by false true true ea eb ec h = let more : is_blocked (busy ++ q ∷ []) l ≡ true = rw (busy-more busy q l.who, ea) (grind (arith, nat_tests)) in rw (more, ea, eb, ec) (omega (arith, h))
    by false true false ea eb ec h = let more : is_blocked (busy ++ q ∷ []) l ≡ true = rw (busy-more busy q l.who, ea) (grind (arith, nat_tests)) in rw (more, ea, eb, ec) (omega (arith, h))
    by false false c ea eb ec h = let more : is_blocked (busy ++ q ∷ []) l ≡ false = rw (busy-more busy q l.who, ea) (grind (arith, nat_tests)) in rw (more, ea, eb) h

-- the count of the first i receivers becomes that of the first i + 1
pub blocked-step : (m : ℕ) (busy : List ℕ) (i d : ℕ) (ls : List Letter) → AllDiffer busy → i < length busy
    → length (filter (is_to m) (filter (is_blocked (take (i + 1) busy)) ls)) ≡ length (filter (is_to m) (filter (is_blocked (take i busy)) ls)) + length (filter (is_to m) (filter (is_for (get_or busy i d)) ls))
blocked-step m busy i d ls differ lt = rw (take_more busy i d lt) (blocked-more (is_to m) (take i busy) (get_or busy i d) ls (fresh-receiver busy i d differ lt))

-- no more letters are blocked than there are
pub blocked-le : (t p : Letter → Bool) (ls : List Letter) → length (filter t (filter p ls)) ≤ length ls
blocked-le t p ls = omega (arith, length-filter-le t (filter p ls), length-filter-le p ls)

-- of the letters up to a place, those that are blocked and those that are deliverable
pub blocked-or-deliverable : (busy : List ℕ) (ls : List Letter) (k : ℕ) (d : Letter) → IsAscending ls → k < length ls
    → length (filter (is_to (get_or ls k d).message) (filter (is_blocked busy) ls)) + length (filter (is_deliverable busy) (take (suc k) ls)) ≡ suc k
blocked-or-deliverable busy ls k d up lt =
    rw (filter-comm (is_to (get_or ls k d).message) (is_blocked busy) ls, to-place ls k d up lt)
    (length-filter_both (is_blocked busy) (is_deliverable busy) (λ l. refl) (take (suc k) ls) ∙ length-take-le (suc k) ls (omega (arith, lt)))

-- nobody in a turn blocks nothing
pub blocked-none : (t : Letter → Bool) (ls : List Letter) → 0 ≡ length (filter t (filter (is_blocked []) ls))
blocked-none t ls = rw (filter-none (is_blocked []) ls (λ k d lt. refl)) refl

-- the same of the letter that is at the place
pub passed-by : (busy : List ℕ) (ls : List Letter) (k : ℕ) (x : Letter) (blocked : ℕ) → IsAscending ls → k < length ls → slice_get ls k ≡ Some x
    → blocked ≡ length (filter (is_to x.message) (filter (is_blocked busy) ls)) → blocked + length (filter (is_deliverable busy) (take (k + 1) ls)) ≡ k + 1
passed-by busy ls k x blocked up lt at e =
    let here : get_or ls k x ≡ x = sym (unwrap_or-slice_get ls k x) ∙ ap (λ o. unwrap_or o x) at in
    let sum = blocked-or-deliverable busy ls k x up lt in
    let sum' : length (filter (is_to x.message) (filter (is_blocked busy) ls)) + length (filter (is_deliverable busy) (take (suc k) ls)) ≡ suc k = rw here at sum in
    rw (add-one k) (omega (arith, e, sum'))

-- what a search for the element with the number k of those that pass knows where it stands between low and high
pub record IsBetween (p : Letter → Bool) (ls : List Letter) (k low high : ℕ) : Type 0 where
  pub ordered : low ≤ high
  pub within : high < length ls
  pub before : length (filter p (take low ls)) ≤ k
  pub through : k < length (filter p (take (high + 1) ls))

-- it begins between k and the place that is as many further on as there are that don't pass
pub search-start : (p : Letter → Bool) (ls : List Letter) (k count n : ℕ) → count ≡ length (filter p ls) → n ≡ length ls → k < count → IsBetween p ls k k (k + (n - count))
search-start p ls k count n e f lt =
    let most : count ≤ n = omega (arith, e, f, length-filter-le p ls) in
    record {
      ordered = omega arith;
      within = omega (arith, most, f, lt);
      before = omega (arith, length-filter-le p (take k ls), length-take k ls);
      through =
          let all : length (filter p (take n ls)) ≡ count = rw (take_all n ls (omega (arith, f))) (sym e) in
          omega (arith, most, lt, all, filter-take-le p ls n (k + (n - count) + 1) (count - k - 1) (omega (arith, most, lt)));
    }

-- where too few are passed at the middle, at least as many places more are passed
pub search-higher : (p : Letter → Bool) (ls : List Letter) (k low high middle passed : ℕ) → IsBetween p ls k low high → low ≤ middle → middle < high → passed ≡ length (filter p (take (middle + 1) ls)) → passed ≤ k → IsBetween p ls k (middle + 1 + (k - passed)) high
search-higher p ls k low high middle passed b le lt e few = record {
  ordered = omega (arith, b.through, few, e, filter-take-le p ls (high + 1) (middle + 1) (high - middle) (omega (arith, lt)));
  within = b.within;
  before = omega (arith, few, e, filter-take-le p ls (middle + 1 + (k - passed)) (middle + 1) (k - passed) (omega arith));
  through = b.through;
}

-- no more are passed than there are places
pub passed-le : (p : Letter → Bool) (ls : List Letter) (middle passed : ℕ) → passed ≡ length (filter p (take (middle + 1) ls)) → passed ≤ middle + 1
passed-le p ls middle passed e = omega (arith, e, length-filter-le p (take (middle + 1) ls), length-take (middle + 1) ls)

-- where more are passed, at least as many places fewer are
pub search-lower : (p : Letter → Bool) (ls : List Letter) (k low high middle passed : ℕ) → IsBetween p ls k low high → low ≤ middle → middle < high → passed ≡ length (filter p (take (middle + 1) ls)) → k < passed → IsBetween p ls k low (middle - (passed - k - 1))
search-lower p ls k low high middle passed b le lt e many =
    let most : passed ≤ middle + 1 = passed-le p ls middle passed e in
    let through : k < length (filter p (take (middle - (passed - k - 1) + 1) ls)) = omega (arith, most, many, e, filter-take-le p ls (middle + 1) (middle - (passed - k - 1) + 1) (passed - k - 1) (omega (arith, most, many))) in
    record {
      ordered = ⊎_elim (λ below. absurd (omega (arith, b.before, through, filter-take-le p ls (middle - (passed - k - 1) + 1) low 0 (omega (arith, below))))) (λ h. h) (cases_lt (middle - (passed - k - 1)) low);
      within = omega (arith, b.within, lt);
      before = b.before;
      through = through;
    }

-- it ends at the element
pub search-end : (p : Letter → Bool) (ls : List Letter) (k low high : ℕ) → IsBetween p ls k low high → high ≤ low → slice_get ls low ≡ slice_get (filter p ls) k
search-end p ls k low high b met =
    let same : high ≡ low = omega (arith, b.ordered, met) in
    let through : k < length (filter p (take (suc low) ls)) = subst (λ i. k < length (filter p (take i ls))) (let e : high + 1 ≡ suc low = omega (arith, same) in e) b.through in
    sym (nth-filter p ls low k b.before through)
