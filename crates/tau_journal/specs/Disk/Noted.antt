-- A state after a call was noted, or a fault counted.
use Rattle.std.specs.Prelude.{[], ◌∷◌, ◌++◌}
use Rattle.tau_io.specs.Faults.{one_more}
use Rattle.tau_journal.specs.Disk.Memory.{DiskState}
use Rattle.tau_journal.specs.declared.disk.memory_disk.Call.{Call}

-- one call more
abbrev pub noted : DiskState → Call → DiskState
noted s call = record s { calls = s.calls ++ call ∷ [] }

-- one fault more
abbrev pub counted : DiskState → DiskState
counted s = record s { faults = one_more s.faults }
