use Rattle.std.proofs.Common.{ap, sym, Some, refl, subst}
use Rattle.tau_journal.specs.Disk.Calls.{IsImage}
use Rattle.tau_journal.specs.Disk.Inner.{reads_as_held}
use Rattle.tau_journal.specs.Disk.Memory.{state_of}
use Rattle.tau_journal.specs.declared.disk.memory_disk.Call.TheVariants.{Looked, Synced}
use Rattle.tau_journal.proofs.Answered.{time_goes, bytes_stay, images_stay, durable_after}
use Rattle.tau_journal.proofs.disk.memory_disk.MemoryDiskDisk.sync.Goals as goal

pub returns-clause-same : goal.returns-clause-same
returns-clause-same c = ap Some (bytes_stay (state_of c.args.self.now) (state_of c.call.new.self) Synced Looked c.call.result c.call.ensures.after refl refl)

pub returns-clause-time : goal.returns-clause-time
returns-clause-time c = time_goes (state_of c.args.self.now) (state_of c.call.new.self) Synced Looked c.call.result c.call.ensures.after

pub returns-clause-crash : goal.returns-clause-crash
returns-clause-crash c = images_stay (state_of c.args.self.now) (state_of c.call.new.self) Synced Looked c.call.result c.call.ensures.after (IsImage c.args.self.now.first.items c.args.self.now.calls.items)
    (λ e now. subst (IsImage c.args.self.now.first.items c.args.self.now.calls.items) (sym now) (reads_as_held c.args.self.now.first.items c.args.self.now.calls.items c.args.self.now.within)) (λ e now. now) (λ e now. now)

pub returns-clause-durable : goal.returns-clause-durable
returns-clause-durable c = durable_after (state_of c.args.self.now) (state_of c.call.new.self) c.call.result c.call.ensures.after
