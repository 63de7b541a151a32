-- What a contract sees of a disk that is a file: it tells no bytes, and of what a crash leaves nothing is known; it has a count of faults.
use Rattle.std.specs.Prelude.{ℕ, List, Option, None, Result, Ok, Err}
use Rattle.tau_io.specs.Faults.{one_more}
use Rattle.tau_journal.specs.Disk.Bytes.{AnyBytes}
use Rattle.tau_journal.specs.declared.disk.disks.DiskError.{DiskError}
use Rattle.tau_journal.specs.declared.disk.disks.DiskError.TheVariants.{Failed, NoMemory}
use Rattle.tau_journal.specs.declared.disk.file_disk.FileDisk.{FileDisk}

abbrev pub untold : Option (List ℕ)
untold = None

abbrev pub AnySince : ℕ → List ℕ → Type 0
AnySince t c = AnyBytes c

abbrev pub file_faults : {R F : Type 0} → FileDisk R F → ℕ
file_faults d = d.faults

-- the count after a call: it is raised by one exactly where the call failed
abbrev pub faults_after : {X : Type 0} → ℕ → Result X DiskError → ℕ
faults_after faults (Ok x) = faults
faults_after faults (Err Failed) = one_more faults
faults_after faults (Err NoMemory) = faults
