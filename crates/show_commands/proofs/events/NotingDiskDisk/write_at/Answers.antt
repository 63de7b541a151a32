use Rattle.std.proofs.Common.{refl, arith}
use Rattle.show_commands.proofs.events.NotingDiskDisk.write_at.Goals as goal

pub returns-in_err-note-clause-crash : goal.returns-in_err-note-clause-crash
returns-in_err-note-clause-crash c e now = (e, tt, record { before = refl; after = refl; no_shorter = omega arith; no_longer = omega arith })

pub returns-in_err-write_over-clause-crash : goal.returns-in_err-write_over-clause-crash
returns-in_err-write_over-clause-crash c e now = (e, tt, record { before = refl; after = refl; no_shorter = omega arith; no_longer = omega arith })

pub returns-then-branch-clause-crash : goal.returns-then-branch-clause-crash
returns-then-branch-clause-crash c e now = (e, tt, record { before = refl; after = refl; no_shorter = omega arith; no_longer = omega arith })

pub returns-else-branch-clause-crash : goal.returns-else-branch-clause-crash
returns-else-branch-clause-crash c e now = (e, tt, record { before = refl; after = refl; no_shorter = omega arith; no_longer = omega arith })
