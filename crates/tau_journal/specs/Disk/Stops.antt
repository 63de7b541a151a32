-- A stop within a write.
use Rattle.std.specs.Prelude.{ℕ, ◌≤◌, List, length, take, Option, Some, None}
use Rattle.tau_journal.specs.Disk.Bytes.{overwritten}
use Rattle.tau_journal.specs.declared.disk.memory_disk.Call.{Call}
use Rattle.tau_journal.specs.declared.disk.memory_disk.Call.TheVariants.{Looked, Wrote, Tore, Synced}

-- the call was a write of at least so many bytes
abbrev pub IsWrite : ℕ → Option Call → Type 0
IsWrite kept (Some (Wrote at bytes)) = kept ≤ length bytes
IsWrite kept (Some (Tore at bytes)) = kept ≤ length bytes
IsWrite kept (Some Looked) = ⊥
IsWrite kept (Some Synced) = ⊥
IsWrite kept None = ⊥

-- how many bytes a write has
abbrev pub write_length : Option Call → Option ℕ
write_length (Some (Wrote at bytes)) = Some (length bytes)
write_length (Some (Tore at bytes)) = Some (length bytes)
write_length (Some Looked) = None
write_length (Some Synced) = None
write_length None = None

-- the bytes with so many of the call's written over them, where it was a write
abbrev pub stopped_by : ℕ → Option Call → List ℕ → List ℕ
stopped_by kept (Some (Wrote at bytes)) b = overwritten b at (take kept bytes)
stopped_by kept (Some (Tore at bytes)) b = overwritten b at (take kept bytes)
stopped_by kept (Some Looked) b = b
stopped_by kept (Some Synced) b = b
stopped_by kept None b = b
