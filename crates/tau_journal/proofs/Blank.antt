-- What a blank disk becomes as a journal is made on it.
use Rattle.std.proofs.Common.{◌≢◌, inl, inr, ⊎_elim, ℕ, List, [], Option, Some, None, IfSome, sym, subst}
use Rattle.std.specs.Prelude.{get_or}
use Rattle.tau_journal.specs.Disk.Bytes.{Only}
use Rattle.tau_journal.specs.Disk.Moments.{Elapses, LeavesOnly}
use Rattle.tau_journal.proofs.Moments.{goes_on, weaker, joined}
use Rattle.tau_journal.specs.Records.{AreRecords, IsBeforeOrAfter}
use Rattle.tau_journal.specs.Found.{IsBlank, IsBlankOrHas}

-- bytes without records are blank
pub blank_of_none : (c : List ℕ) → AreRecords [] c → IsBlank c
blank_of_none c are = inr (subst (λ (l : List ℕ). get_or l 0 0 ≢ 1) (sym are.1.file_is) are.1.closed)

pub with_told : {X A B : Type 0} (o : Option X) → (A → B) → IfSome o (λ _. A) → IfSome o (λ _. B)
with_told None f a = tt
with_told (Some x) f a = f a

-- what a crash at any moment leaves
module _ {D : Type 0} (images : D → List ℕ → Type 0) (moment : D → ℕ) (left_since : D → ℕ → List ℕ → Type 0) where
  abbrev Elapsed : D → D → Type 0
  Elapsed a b = Elapses (moment a) (moment b) (left_since a) (left_since b) (images b)

  abbrev Leaves : D → D → (List ℕ → Type 0) → Type 0
  Leaves a b P = LeavesOnly moment left_since a b P

  -- while the journal is made
  module _ (r : List ℕ) (d0 : D) where
    abbrev IsMaking : Option (List ℕ) → D → Type 0
    IsMaking o d = IfSome o (λ file. IsBlank file → Only o (images d0) → Leaves d0 d (IsBlankOrHas r))

    pub making_looked : (o : Option (List ℕ)) (d1 : D) → Leaves d0 d1 (images d0) → IsMaking o d1
    making_looked None d1 left = tt
    making_looked (Some f) d1 left = λ blank only. weaker moment left_since d0 d1 (images d0) (IsBlankOrHas r) (λ c now. inl (subst IsBlank (sym (only c now)) blank)) left

    pub making_sized : (o : Option (List ℕ)) (d1 d2 : D) → IsMaking o d1 → Elapsed d1 d2 → ((c : List ℕ) → images d2 c → images d0 c) → IsMaking o d2
    making_sized None d1 d2 so_far time crash = tt
    making_sized (Some f) d1 d2 so_far time crash = λ blank only.
        goes_on moment left_since d0 d1 d2 (IsBlankOrHas r) (images d2) (so_far blank only) time (λ c now. inl (subst IsBlank (sym (only c (crash c now))) blank))

    pub making_closed : (o : Option (List ℕ)) (d2 d3 : D) → IsMaking o d2 → IfSome o (λ _. Leaves d2 d3 IsBlank) → IsMaking o d3
    making_closed None d2 d3 so_far more = tt
    making_closed (Some f) d2 d3 so_far more = λ blank only.
        joined moment left_since d0 d2 d3 (IsBlankOrHas r) (so_far blank only) (weaker moment left_since d2 d3 IsBlank (IsBlankOrHas r) (λ c is. inl is) more)

    pub making_written : (o : Option (List ℕ)) (d3 d4 : D) → IsMaking o d3 → IfSome o (λ _. Leaves d3 d4 (IsBeforeOrAfter [] r)) → IsMaking o d4
    making_written None d3 d4 so_far more = tt
    making_written (Some f) d3 d4 so_far more = λ blank only.
        joined moment left_since d0 d3 d4 (IsBlankOrHas r) (so_far blank only)
        (weaker moment left_since d3 d4 (IsBeforeOrAfter [] r) (IsBlankOrHas r) (λ c is. ⊎_elim (λ none. inl (blank_of_none c none)) (λ one. inr one) is) more)
