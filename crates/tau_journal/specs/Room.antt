-- The room of a disk, and the fault that tells its want.
use Rattle.std.specs.Prelude.{◌≡◌, ◌⊎◌, ℕ, nat_lt, if◌then◌else◌, List, length, Result, Err, Option, Some, None, ⊤}
use Rattle.tau_journal.specs.declared.errors.JournalError.{JournalError}
use Rattle.tau_journal.specs.declared.errors.JournalError.TheVariants.{Fault, DiskFault, NoMemory}

-- the most bytes of a disk
abbrev pub most_bytes : ℕ
most_bytes = 67108864

-- the size that is too large: that of the disk, or the one that it would have
abbrev pub too_large : ℕ → ℕ → Option ℕ
too_large size need = if nat_lt most_bytes size then Some size else (if nat_lt most_bytes need then Some need else None)

-- a fault is that of a disk that is too large, at that size where the disk tells its bytes
abbrev pub IsTooLarge : Option (List ℕ) → ℕ → JournalError → Type 0
IsTooLarge None need (Fault fault at) = fault ≡ 8
IsTooLarge (Some file) need (Fault fault at) = (fault ≡ 8) × (too_large (length file) need ≡ Some at)
IsTooLarge bytes need DiskFault = ⊤
IsTooLarge bytes need NoMemory = ⊤

-- the answer is this fault, or the disk failed, or memory ran out
abbrev pub IsFaultOrFailure : {X : Type 0} → ℕ → ℕ → Result X JournalError → Type 0
IsFaultOrFailure fault at result = (result ≡ Err (Fault fault at)) ⊎ ((result ≡ Err DiskFault) ⊎ (result ≡ Err NoMemory))

-- where the disk tells its bytes and they are too many, or would be, the answer says so
abbrev pub IsUnlessSmall : {X : Type 0} → Option (List ℕ) → ℕ → Result X JournalError → Type 0
IsUnlessSmall None need result = ⊤
IsUnlessSmall (Some file) need result = (at : ℕ) → too_large (length file) need ≡ Some at → IsFaultOrFailure 8 at result

-- the disk failed, or memory ran out
abbrev pub IsFailure : JournalError → Type 0
IsFailure (Fault fault at) = ⊥
IsFailure DiskFault = ⊤
IsFailure NoMemory = ⊤
