-- The errors of a journal for those of its disk.
use Rattle.tau_journal.specs.declared.disk.disks.DiskError.{DiskError}
use Rattle.tau_journal.specs.declared.disk.disks.DiskError.TheVariants as disks
use Rattle.tau_journal.specs.declared.errors.JournalError.{JournalError}
use Rattle.tau_journal.specs.declared.errors.JournalError.TheVariants.{DiskFault, NoMemory}

abbrev pub of_disk_error : DiskError → JournalError
of_disk_error disks.Failed = DiskFault
of_disk_error disks.NoMemory = NoMemory
