use Rattle.std.proofs.Common.{◌≡◌, take}
use Rattle.tau_journal.specs.Disk.Calls.{held}
use Rattle.tau_journal.proofs.disk.memory_disk.MemoryDisk.held_before.Given as goal

abbrev pub invariant-loop-call : goal.invariant-loop-call
invariant-loop-call l = l.bytes.items ≡ held l.self.first.items (take l.call-index l.self.calls.items)
