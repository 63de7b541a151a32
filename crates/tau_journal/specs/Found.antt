-- What the bytes of a disk are to a journal that is looked for.
use Rattle.std.specs.Prelude.{◌≡◌, ◌≢◌, ◌⊎◌, ℕ, ◌+◌, ◌<◌, ◌≤◌, ◌^◌, List, [], ◌∷◌, ◌++◌, length, take, get_or, All, Some}
use Rattle.std.specs.Int.{w32, from_le_bytes}
use Rattle.tau_journal.specs.Records.{written, AreRecords}
use Rattle.tau_journal.specs.Room.{most_bytes, too_large}

-- there is no journal: fewer than six bytes, or a first gate that is closed
abbrev pub IsBlank : List ℕ → Type 0
IsBlank file = (length file < 6) ⊎ (get_or file 0 0 ≢ 1)

-- what stands behind an open gate is shorter than a length, its record and the next gate
abbrev pub IsCut : List ℕ → Type 0
IsCut rest = (length rest < 4) ⊎ (length rest < 4 + from_le_bytes w32 (take 4 rest) + 1)

-- behind some records stands an open gate at this place, and what follows is cut
pub record IsDamaged (gate : ℕ) (file : List ℕ) : Type 0 where
  pub records : List (List ℕ)
  pub rest : List ℕ
  pub file_is : file ≡ written records ++ (1 ∷ rest)
  pub gate_is : gate ≡ length (written records)
  pub short : All (λ r. length r < 2 ^ 32) records
  pub cut : IsCut rest

-- the fault of a disk of these bytes, the first of the three that there is: too many bytes, no journal, damage
abbrev pub IsFault : List ℕ → ℕ → ℕ → Type 0
IsFault file fault at = ((fault ≡ 8) × (at ≡ length file) × (most_bytes < length file))
    ⊎ (((fault ≡ 1) × (at ≡ 0) × (length file ≤ most_bytes) × IsBlank file)
    ⊎ ((fault ≡ 2) × (length file ≤ most_bytes) × (¬ IsBlank file) × IsDamaged at file))

-- there is no journal, or its one record is this
abbrev pub IsBlankOrHas : List ℕ → List ℕ → Type 0
IsBlankOrHas r file = IsBlank file ⊎ AreRecords (r ∷ []) file

-- the fault of making a journal of so many bytes on a disk of these: it isn't blank, or there are too many bytes
abbrev pub IsCreateFault : ℕ → List ℕ → ℕ → ℕ → Type 0
IsCreateFault need file fault at = ((fault ≡ 7) × (at ≡ 0) × (¬ IsBlank file))
    ⊎ ((fault ≡ 8) × IsBlank file × (too_large (length file) need ≡ Some at))

-- the numbers of the faults of making a journal, and of looking for one, on every disk
abbrev pub IsCreateNumber : ℕ → Type 0
IsCreateNumber fault = (fault ≡ 7) ⊎ (fault ≡ 8)

abbrev pub IsFindNumber : ℕ → Type 0
IsFindNumber fault = (fault ≡ 1) ⊎ ((fault ≡ 2) ⊎ (fault ≡ 8))
