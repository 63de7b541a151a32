-- Marks of what was heard, as one pass from a place downwards sets them.
use Rattle.std.specs.Prelude.{◌≡◌, ◌⊎◌, ℕ, Bool, true, List, Option, Some, None, slice_get, length}
use Rattle.tau_points.specs.Reach.{Reach}
use Rattle.tau_trace.specs.Run.{Run, len, ActsAt}
use Rattle.tau_trace.specs.Numbering.{born, IsNew, IsOrigin}
use Rattle.tau_past.specs.Heard.{Needs}
use Rattle.tau_past.specs.KnownLaws.{HearsOf}

-- number k is marked
abbrev pub IsMarked : List Bool → ℕ → Type 0
IsMarked marks k = slice_get marks k ≡ Some true

-- the number, if there is one, is marked
abbrev pub IsMarkedOption : List Bool → Option ℕ → Type 0
IsMarkedOption marks o = (k : ℕ) × (o ≡ Some k) × IsMarked marks k

-- what is needed by the step at place k, and by all that is needed
abbrev pub NeededAt : Run → ℕ → ℕ → Type 0
NeededAt T k = Reach (Needs T) (Needs T k)

-- the place of the origin of the message that the step at place k hears of; None where there is none
abbrev pub HearsFrom : Run → ℕ → Option ℕ → Type 0
HearsFrom T k None = (m j by : ℕ) → HearsOf T k m → ¬ IsOrigin T j by m
HearsFrom T k (Some j) = (m : ℕ) × HearsOf T k m × ((by : ℕ) × IsOrigin T j by m)

-- transactor u makes the step at place j, or is made by it
abbrev pub TakesPartAt : Run → ℕ → ℕ → Type 0
TakesPartAt T u j = ActsAt T u j ⊎ ((by : ℕ) × IsNew T j by u)

-- a transactor that takes part in the step at place j is marked
abbrev pub IsEnteredAt : Run → ℕ → List Bool → Type 0
IsEnteredAt T j entered = (u : ℕ) × TakesPartAt T u j × IsMarked entered u

-- the place is marked itself, or for a transactor that takes part in it
abbrev pub IsNoted : Run → ℕ → List Bool → List Bool → Type 0
IsNoted T j known entered = IsMarked known j ⊎ IsEnteredAt T j entered

-- there is a mark for each step and for each transactor
pub record AreMarks (T : Run) (known entered : List Bool) : Type 0 where
  pub places : length known ≡ len T
  pub transactors : length entered ≡ born T (len T)

-- the number, if there is one, is marked too
pub record MarksOne (o : Option ℕ) (marks0 marks : List Bool) : Type 0 where
  pub count : length marks ≡ length marks0
  pub kept : (k : ℕ) → IsMarked marks0 k → IsMarked marks k
  pub marked : (k : ℕ) → o ≡ Some k → IsMarked marks k
  pub allowed : (k : ℕ) → IsMarked marks k → IsMarked marks0 k ⊎ (o ≡ Some k)

-- what the step at place k needs is marked: its transactor, and the origin of the message that it hears of
pub record MarksNeeds (T : Run) (k : ℕ) (known0 known entered0 entered : List Bool) : Type 0 where
  pub marks : AreMarks T known entered
  pub places_kept : (j : ℕ) → IsMarked known0 j → IsMarked known j
  pub entered_kept : (u : ℕ) → IsMarked entered0 u → IsMarked entered u
  pub places_allowed : (j : ℕ) → IsMarked known j → IsMarked known0 j ⊎ Needs T k j
  pub entered_allowed : (u : ℕ) → IsMarked entered u → IsMarked entered0 u ⊎ ActsAt T u k
  pub needed : (j : ℕ) → Needs T k j → IsNoted T j known entered
