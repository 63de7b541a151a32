-- How what crashes may leave goes on over a run of calls of a disk.
use Rattle.std.proofs.Common.{◌≡◌, inl, inr, ⊎_elim, ℕ, ◌≤◌, List, Option, refl, ◌∙◌, arith}
use Rattle.tau_journal.specs.Disk.Moments.{Elapses, LeavesOnly, IsUntouched}

module _ {D : Type 0} (moment : D → ℕ) (left_since : D → ℕ → List ℕ → Type 0) where
  -- before the first call
  pub started : (old : D) (P : List ℕ → Type 0) → ((c : List ℕ) → left_since old (moment old) c → P c) → LeavesOnly moment left_since old old P
  started old P here = record { later = omega arith; each = here; before = λ t c le left. inl left }

  -- one call more, after which a crash leaves what has P
  pub goes_on : (old mid new : D) (P images : List ℕ → Type 0) → LeavesOnly moment left_since old mid P → Elapses (moment mid) (moment new) (left_since mid) (left_since new) images
      → ((c : List ℕ) → images c → P c) → LeavesOnly moment left_since old new P
  goes_on old mid new P images so_far time here = record {
    later = omega (arith, so_far.later, time.later);
    each = λ c left. ⊎_elim (so_far.each c) (here c) (time.nothing_else (moment old) c so_far.later left);
    before = λ t c le left. ⊎_elim (so_far.before t c le) (λ now. inr (here c now)) (time.nothing_else t c (omega (arith, le, so_far.later)) left);
  }

  -- what has P has Q
  pub weaker : (old new : D) (P Q : List ℕ → Type 0) → ((c : List ℕ) → P c → Q c) → LeavesOnly moment left_since old new P → LeavesOnly moment left_since old new Q
  weaker old new P Q is so_far = record {
    later = so_far.later;
    each = λ c left. is c (so_far.each c left);
    before = λ t c le left. ⊎_elim (λ was. inl was) (λ p. inr (is c p)) (so_far.before t c le left);
  }

  -- one run after another
  pub joined : (old mid new : D) (P : List ℕ → Type 0) → LeavesOnly moment left_since old mid P → LeavesOnly moment left_since mid new P → LeavesOnly moment left_since old new P
  joined old mid new P one two = record {
    later = omega (arith, one.later, two.later);
    each = λ c left. ⊎_elim (one.each c) (λ p. p) (two.before (moment old) c one.later left);
    before = λ t c le left. ⊎_elim (one.before t c le) (λ p. inr p) (two.before t c (omega (arith, le, one.later)) left);
  }

-- nothing is written
module _ {D : Type 0} (bytes : D → Option (List ℕ)) (images : D → List ℕ → Type 0) (moment : D → ℕ) (left_since : D → ℕ → List ℕ → Type 0) (only_now : (d : D) (c : List ℕ) → left_since d (moment d) c → images d c) where
  -- before the first call
  pub untouched : (d : D) → IsUntouched bytes images moment left_since d d
  untouched d = record { same = refl; leaves = started moment left_since d (images d) (only_now d) }

  -- by a call that adds no image
  pub untouched_by : (old new : D) → bytes new ≡ bytes old → ((c : List ℕ) → images new c → images old c) → Elapses (moment old) (moment new) (left_since old) (left_since new) (images new) → IsUntouched bytes images moment left_since old new
  untouched_by old new same crash time = record { same = same; leaves = goes_on moment left_since old old new (images old) (images new) (started moment left_since old (images old) (only_now old)) time crash }

  -- by one run of calls after another
  pub untouched_then : ((d : D) (t : ℕ) (c : List ℕ) → t ≤ moment d → images d c → left_since d t c) → (old mid new : D)
      → IsUntouched bytes images moment left_since old mid → IsUntouched bytes images moment left_since mid new → IsUntouched bytes images moment left_since old new
  untouched_then counts_now old mid new one two = record {
    same = two.same ∙ one.same;
    leaves = joined moment left_since old mid new (images old) one.leaves
        (weaker moment left_since mid new (images mid) (images old) (λ c now. one.leaves.each c (counts_now mid (moment old) c one.leaves.later now)) two.leaves);
  }
