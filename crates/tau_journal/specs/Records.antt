-- Records on a disk.
use Rattle.std.specs.Prelude.{◌≡◌, ◌≢◌, ◌⊎◌, ℕ, ◌<◌, ◌^◌, List, [], ◌∷◌, ◌++◌, length, All, Option, Some, None, ⊤, codes}
use Rattle.std.specs.Int.{w32, to_le_bytes}
use Rattle.tau_journal.specs.Disk.Bytes.{Only}

-- records as bytes: each is an open gate, four bytes of its length, the least first, and the record
abbrev pub written : List (List ℕ) → List ℕ
written [] = []
written (r ∷ rs) = 1 ∷ to_le_bytes w32 (length r) ++ (r ++ written rs)

-- the file is these records, and then a closed gate at this place; what follows isn't read
pub record HasRecords (rs : List (List ℕ)) (gate : ℕ) (file : List ℕ) : Type 0 where
  pub shut : ℕ
  pub rest : List ℕ
  pub file_is : file ≡ written rs ++ (shut ∷ rest)
  pub closed : shut ≢ 1
  pub gate_is : gate ≡ length (written rs)
  pub short : All (λ r. length r < 2 ^ 32) rs

-- the same of a disk that tells its bytes
pub record TellsRecords (bytes : Option (List ℕ)) (rs : List (List ℕ)) (gate : ℕ) : Type 0 where
  pub file : List ℕ
  pub told : bytes ≡ Some file
  pub has : HasRecords rs gate file

-- where the disk tells its bytes, its records end at the gate, and these bytes are its one image
abbrev pub IsAtRest : Option (List ℕ) → (List ℕ → Type 0) → ℕ → Type 0
IsAtRest None images gate = ⊤
IsAtRest (Some file) images gate = ((rs : List (List ℕ)) × HasRecords rs gate file) × Only (Some file) images

-- the file has these records
abbrev pub AreRecords : List (List ℕ) → List ℕ → Type 0
AreRecords rs file = (gate : ℕ) × HasRecords rs gate file

-- the file has these records, with one more or without it
abbrev pub IsBeforeOrAfter : List (List ℕ) → List ℕ → List ℕ → Type 0
IsBeforeOrAfter rs r file = AreRecords rs file ⊎ AreRecords (rs ++ r ∷ []) file

-- the record that tells of going on after a stop
abbrev pub going_on : List ℕ
going_on = codes "(resumed)" ++ 10 ∷ []
