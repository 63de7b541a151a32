use Rattle.std.proofs.Common.{ap, Some, subst}
use Rattle.tau_journal.specs.Disk.Calls.{held, IsImage}
use Rattle.tau_journal.specs.Disk.Memory.{DiskState, state_of}
use Rattle.tau_journal.specs.declared.disk.memory_disk.Call.TheVariants.{Wrote, Tore}
use Rattle.tau_journal.proofs.Answered.{time_goes, written_after, torn_after, same_without_memory}
use Rattle.tau_journal.proofs.disk.memory_disk.MemoryDiskDisk.write_at.Goals as goal

pub returns-clause-time : goal.returns-clause-time
returns-clause-time c = time_goes (state_of c.args.self.now) (state_of c.write.new.self) (Wrote c.args.at c.args.from.now) (Tore c.args.at c.args.from.now) c.write.result c.write.ensures.after

pub returns-clause-crash : goal.returns-clause-crash
returns-clause-crash c = torn_after (state_of c.args.self.now) (state_of c.write.new.self) c.args.at c.args.from.now c.write.result c.write.ensures.after

pub returns-clause-untouched : goal.returns-clause-untouched
returns-clause-untouched c none = ap (λ (u : DiskState). Some (held u.first u.calls)) (same_without_memory (state_of c.args.self.now) (state_of c.write.new.self) c.args.at c.args.from.now c.write.result c.write.ensures.after none)

pub returns-clause-untorn : goal.returns-clause-untorn
returns-clause-untorn c none = λ e now. subst (λ (u : DiskState). IsImage u.first u.calls e) (same_without_memory (state_of c.args.self.now) (state_of c.write.new.self) c.args.at c.args.from.now c.write.result c.write.ensures.after none) now

pub returns-clause-written : goal.returns-clause-written
returns-clause-written c = written_after (state_of c.args.self.now) (state_of c.write.new.self) c.args.at c.args.from.now c.write.result c.write.ensures.after
