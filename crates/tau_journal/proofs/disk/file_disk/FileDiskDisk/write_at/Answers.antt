use Rattle.std.proofs.Common.{refl, arith}
use Rattle.tau_journal.proofs.disk.file_disk.FileDiskDisk.write_at.Goals as goal

pub returns-clause-crash : goal.returns-clause-crash
returns-clause-crash g c e now = (e, tt, record { before = refl; after = refl; no_shorter = omega arith; no_longer = omega arith })
