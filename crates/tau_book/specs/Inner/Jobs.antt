-- The earliest of some jobs.
use Rattle.std.specs.Prelude.{◌≡◌, ◌<◌, ◌≤◌, ℕ, List, Option, Some, None, length, drop, slice_get}
use Rattle.tau_eval.specs.Turn.{TurnSoFar}
use Rattle.tau_book.specs.Offers.{earliest}

-- the job at the place is the earliest of those from place k on; None where there are none
abbrev pub IsEarliestFrom : List TurnSoFar → ℕ → Option ℕ → Type 0
IsEarliestFrom jobs k None = length jobs ≤ k
IsEarliestFrom jobs k (Some place) = (place < length jobs) × (earliest (drop k jobs) ≡ slice_get jobs place)
