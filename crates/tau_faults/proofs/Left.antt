-- How many faults are left of each kind.
use Rattle.std.proofs.Common.{◌≡◌, ℕ, ◌+◌, ◌<◌, Bool, cond, List, [], ◌∷◌, ◌++◌, arith}
use Rattle.std.specs.Prelude.{count_by}
use Rattle.std.proofs.lemmas.List.Sums.{sum_by-append, sum_by-cons}
use Rattle.tau_tree.specs.declared.entries.Entry.{Entry}
use Rattle.tau_tree.specs.declared.entries.Failure.{Failure}
use Rattle.tau_tree.specs.declared.entries.Failure.TheVariants.{Fail, Lose, Repeat}
use Rattle.tau_faults.specs.declared.setting.FaultCounts.{FaultCounts}
use Rattle.tau_faults.specs.Faults.{left_of, fewer}
use Rattle.tau_faults.specs.Ends.{is_failing, is_losing, is_repeating, IsWithin}

-- of each kind the faults and those that are left are as many as there can be
pub record IsLeft (most left : FaultCounts) (faults : List Entry) : Type 0 where
  pub fails : count_by (λ e. is_failing e.failure) faults + left.fails ≡ most.fails
  pub losses : count_by (λ e. is_losing e.failure) faults + left.losses ≡ most.losses
  pub repeats : count_by (λ e. is_repeating e.failure) faults + left.repeats ≡ most.repeats

pushed : (p : Entry → Bool) (xs : List Entry) (x : Entry) → count_by p (xs ++ x ∷ []) ≡ count_by p xs + cond (p x) 1 0
pushed p xs x = omega (arith, sum_by-append (λ y. cond (p y) 1 0) xs (x ∷ []), sum_by-cons (λ y. cond (p y) 1 0) x [])

pub left_first : (most : FaultCounts) → IsLeft most most []
left_first most = record { fails = omega arith; losses = omega arith; repeats = omega arith }

pub left_more : (most left : FaultCounts) (faults : List Entry) (k : ℕ) (f : Failure) → IsLeft most left faults → 0 < left_of left f → IsLeft most (fewer left f) (faults ++ record { at = k; failure = f } ∷ [])
left_more most left faults k (Fail n) l some = record {
  fails = omega (arith, l.fails, some, pushed (λ e. is_failing e.failure) faults (record { at = k; failure = Fail n }));
  losses = omega (arith, l.losses, pushed (λ e. is_losing e.failure) faults (record { at = k; failure = Fail n }));
  repeats = omega (arith, l.repeats, pushed (λ e. is_repeating e.failure) faults (record { at = k; failure = Fail n }));
}
left_more most left faults k (Lose m) l some = record {
  fails = omega (arith, l.fails, pushed (λ e. is_failing e.failure) faults (record { at = k; failure = Lose m }));
  losses = omega (arith, l.losses, some, pushed (λ e. is_losing e.failure) faults (record { at = k; failure = Lose m }));
  repeats = omega (arith, l.repeats, pushed (λ e. is_repeating e.failure) faults (record { at = k; failure = Lose m }));
}
left_more most left faults k (Repeat m) l some = record {
  fails = omega (arith, l.fails, pushed (λ e. is_failing e.failure) faults (record { at = k; failure = Repeat m }));
  losses = omega (arith, l.losses, pushed (λ e. is_losing e.failure) faults (record { at = k; failure = Repeat m }));
  repeats = omega (arith, l.repeats, some, pushed (λ e. is_repeating e.failure) faults (record { at = k; failure = Repeat m }));
}

-- with one fault more within the bounds one of its kind was left
pub left_some : (most left : FaultCounts) (faults : List Entry) (k : ℕ) (f : Failure) → IsLeft most left faults → IsWithin most (faults ++ record { at = k; failure = f } ∷ []) → 0 < left_of left f
left_some most left faults k (Fail n) l w = omega (arith, l.fails, w.fails, pushed (λ e. is_failing e.failure) faults (record { at = k; failure = Fail n }))
left_some most left faults k (Lose m) l w = omega (arith, l.losses, w.losses, pushed (λ e. is_losing e.failure) faults (record { at = k; failure = Lose m }))
left_some most left faults k (Repeat m) l w = omega (arith, l.repeats, w.repeats, pushed (λ e. is_repeating e.failure) faults (record { at = k; failure = Repeat m }))

-- what is left bounds the faults
pub within_left : (most left : FaultCounts) (faults : List Entry) → IsLeft most left faults → IsWithin most faults
within_left most left faults l = record { fails = omega (arith, l.fails); losses = omega (arith, l.losses); repeats = omega (arith, l.repeats) }

pub within_front : (most : FaultCounts) (faults : List Entry) (x : Entry) → IsWithin most (faults ++ x ∷ []) → IsWithin most faults
within_front most faults x w = record {
  fails = omega (arith, w.fails, pushed (λ e. is_failing e.failure) faults x);
  losses = omega (arith, w.losses, pushed (λ e. is_losing e.failure) faults x);
  repeats = omega (arith, w.repeats, pushed (λ e. is_repeating e.failure) faults x);
}
