-- What a contract sees of a disk in memory.
use Rattle.std.specs.Prelude.{◌≡◌, ℕ, List, [], ◌∷◌, ◌++◌, length, Contains, Result, Ok, Err}
use Rattle.tau_io.specs.Faults.{one_more}
use Rattle.tau_journal.specs.Disk.Calls.{held}
use Rattle.tau_journal.specs.declared.disk.disks.DiskError.{DiskError}
use Rattle.tau_journal.specs.declared.disk.disks.DiskError.TheVariants.{Failed, NoMemory}
use Rattle.tau_journal.specs.declared.disk.memory_disk.Call.{Call}
use Rattle.tau_journal.specs.declared.disk.memory_disk.MemoryDisk.{MemoryDisk}

-- the bytes at first, the calls so far, the numbers of the calls that fail, and the count of faults
pub record DiskState : Type 0 where
  pub first : List ℕ
  pub calls : List Call
  pub fails : List ℕ
  pub faults : ℕ

abbrev pub state_of : MemoryDisk → DiskState
state_of d = record { first = d.first.items; calls = d.calls.items; fails = d.fails.items; faults = d.faults }

-- the bytes that a read gives
abbrev pub bytes_of : MemoryDisk → List ℕ
bytes_of d = held d.first.items d.calls.items

-- what a call does: it fails exactly where its number is one of those that fail, and is then noted as `torn` with a
-- fault more; otherwise it is noted as `done`; want of memory is no call
abbrev pub Calls : {X : Type 0} → DiskState → Result X DiskError → Call → Call → DiskState → Type 0
Calls old (Ok x) done torn new = (¬ Contains old.fails (length old.calls)) × (new ≡ record old { calls = old.calls ++ done ∷ [] })
Calls old (Err Failed) done torn new = Contains old.fails (length old.calls) × (new ≡ record old { calls = old.calls ++ torn ∷ []; faults = one_more old.faults })
Calls old (Err NoMemory) done torn new = new ≡ old
