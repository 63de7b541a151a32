-- Ascending letters, and the place that a binary search gives.
use Rattle.std.proofs.Common.{◌≡◌, ◌≢◌, ℕ, suc, ◌<◌, ◌≤◌, Bool, true, false, eqb, ltb, leb, not, List, length, get_or, take, filter, sym, ap, ◌-◌, Some, slice_get, MatchBool, Any, refl, ◌∙◌, arith}
use Rattle.std.proofs.lemmas.Bool.Decides.{nat_tests}
use Rattle.std.proofs.lemmas.List.{get_or_default, length-take-le}
use Rattle.std.specs.Prelude.{unwrap_or}
use Rattle.std.proofs.lemmas.Option.{unwrap_or-slice_get, slice_get_within}
use Rattle.std.specs.List.Sorted.{IsPartitionedBy, IsPartitionPoint}
use Rattle.tau_mailbox.specs.declared.letter.Letter.{Letter}
use Rattle.tau_mailbox.specs.Letters.{is_message, is_other, is_to, IsAscending, AllBelow, IsLowerBound, IsAbsent, IsPlaceOf}
use Rattle.tau_mailbox.proofs.Lists.{find-none, filter-all, find-first, filter-one, filter-front}

-- ascending letters are parted by a bound
pub parted : (m : ℕ) (ls : List Letter) → IsAscending ls → IsPartitionedBy (λ l. ltb l.message m) ls
parted m ls up i j d le lt passed = grind (arith, nat_tests, up i j d)

pub lower_bound_from : (m : ℕ) (ls : List Letter) (k : ℕ) → k ≤ length ls → IsPartitionPoint (λ l. ltb l.message m ≡ true) (λ l. ltb l.message m ≡ false) ls k → IsLowerBound m ls k
lower_bound_from m ls k within h = record {
  within = within;
  below = λ j d lt. grind (arith, nat_tests, h.0 j d (omega arith) lt);
  above = λ j d le lt. grind (arith, nat_tests, h.1 j d le lt);
}

-- the message m is at none but place k
apart : (m : ℕ) (ls : List Letter) (k : ℕ) → IsAscending ls → IsLowerBound m ls k → (j : ℕ) (d : Letter) → j ≢ k → j < length ls → eqb (get_or ls j d).message m ≡ false
apart m ls k up b j d ne lt = grind (arith, nat_tests, b.below j d, b.above k d, up k j d)

-- the message m is nowhere
missing : (m : ℕ) (ls : List Letter) (k : ℕ) → IsAscending ls → IsLowerBound m ls k → ((d : Letter) → k < length ls → (get_or ls k d).message ≢ m) → (j : ℕ) (d : Letter) → j < length ls → eqb (get_or ls j d).message m ≡ false
missing m ls k up b ne j d lt = grind (arith, nat_tests, b.below j d, b.above k d, up k j d, ne d)

-- where the letter at the bound has another message, none has the message m
pub absent : (m : ℕ) (ls : List Letter) (k : ℕ) → IsAscending ls → IsLowerBound m ls k → ((d : Letter) → k < length ls → (get_or ls k d).message ≢ m) → IsAbsent m ls
absent m ls k up b ne = record {
  not_found = find-none (is_message m) ls (λ j d lt. missing m ls k up b ne j d lt);
  all_others = filter-all (is_other m) ls (λ j d lt. ap not (missing m ls k up b ne j d lt));
}

-- where the letter at the bound has the message m, it is the only one
pub present : (m : ℕ) (ls : List Letter) (k : ℕ) → IsAscending ls → IsLowerBound m ls k → k < length ls → ((d : Letter) → (get_or ls k d).message ≡ m) → IsPlaceOf m ls k
present m ls k up b lt e = record {
  within = lt;
  found = λ d. find-first (is_message m) ls k d lt (grind (arith, nat_tests, e d)) (λ j h. apart m ls k up b j d (omega (arith, h)) (omega (arith, h, lt)));
  others = filter-one (is_other m) ls k lt (λ d. grind (arith, nat_tests, e d)) (λ j d ne h. ap not (apart m ls k up b j d ne h));
}

-- the last letter tells whether all are below m
pub ends-below : (m : ℕ) (ls : List Letter) (x : Letter) → IsAscending ls → slice_get ls (length ls - 1) ≡ Some x → MatchBool (ltb x.message m) (AllBelow m ls) (Any (λ l. m ≤ l.message) ls)
ends-below m ls x up last = by (ltb x.message m) refl
  where
    at : (d : Letter) → get_or ls (length ls - 1) d ≡ x
    at d = sym (unwrap_or-slice_get ls (length ls - 1) d) ∙ ap (λ o. unwrap_or o d) last

    by : (b : Bool) → ltb x.message m ≡ b → MatchBool b (AllBelow m ls) (Any (λ l. m ≤ l.message) ls)
    by true t = λ k d lt. let here : (get_or ls (length ls - 1) d).message ≡ x.message = ap (λ (l : Letter). l.message) (at d) in grind (arith, nat_tests, up k (length ls - 1) d)
    by false t = (length ls - 1, x, slice_get_within ls (length ls - 1) x last, at x, grind (arith, nat_tests))

-- ascending letters are parted by a message
pub parted-to : (m : ℕ) (ls : List Letter) → IsAscending ls → IsPartitionedBy (λ l. leb l.message m) ls
parted-to m ls up i j d le lt passed = grind (arith, nat_tests, up i j d)

-- the letters up to a message are those before the place that parts them
pub to-parted : (m : ℕ) (ls : List Letter) (k : ℕ) → k ≤ length ls → IsPartitionPoint (λ l. leb l.message m ≡ true) (λ l. leb l.message m ≡ false) ls k → k ≡ length (filter (is_to m) ls)
to-parted m ls k within h = sym (ap length (filter-front (is_to m) ls k within (λ j d lt. h.0 j d (omega arith) lt) (λ j d le lt. h.1 j d le lt)) ∙ length-take-le k ls within)

-- the letters up to the message at a place are those up to that place
pub to-place : (ls : List Letter) (k : ℕ) (d : Letter) → IsAscending ls → k < length ls → filter (is_to (get_or ls k d).message) ls ≡ take (suc k) ls
to-place ls k d up lt =
    filter-front (is_to (get_or ls k d).message) ls (suc k) (omega (arith, lt))
    (λ j e h. rw (get_or_default ls j e d (omega (arith, h, lt))) (grind (arith, nat_tests, up j k d)))
    (λ j e h within. rw (get_or_default ls j e d within) (grind (arith, nat_tests, up k j d)))
