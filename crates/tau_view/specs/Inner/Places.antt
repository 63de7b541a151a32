-- Places in a list of histories by ascending transactor.
use Rattle.std.specs.Prelude.{◌≡◌, ℕ, ◌+◌, ◌<◌, ◌≤◌, List, [], ◌∷◌, length, take, drop, slice_index_or}
use Rattle.tau_history.specs.Timeline.{Timeline, newborn}
use Rattle.tau_view.specs.Stored.{AscendsFrom}

-- ascending transactors, from the first number on and below the second
abbrev pub Between : ℕ → ℕ → List (ℕ × Timeline) → Type 0
Between n m [] = n ≤ m
Between n m (e ∷ es) = (n ≤ e.0) × Between (e.0 + 1) m es

-- what is read past the end of such a list
abbrev pub blank : ℕ × Timeline
blank = (0, newborn)

-- the transactor's history stands there
pub record IsAt (who : ℕ) (es : List (ℕ × Timeline)) (k : ℕ) : Type 0 where
  pub within : k < length es
  pub is : (slice_index_or es k blank).0 ≡ who

-- lower transactors before, and higher ones from there on
pub record IsGap (who : ℕ) (es : List (ℕ × Timeline)) (k : ℕ) : Type 0 where
  pub within : k ≤ length es
  pub below : Between 0 who (take k es)
  pub above : AscendsFrom (who + 1) (drop k es)
