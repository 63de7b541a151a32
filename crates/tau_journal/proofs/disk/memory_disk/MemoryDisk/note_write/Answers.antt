use Rattle.std.proofs.Common.{◌≡◌, ◌∙◌, sym, ◌++◌, ◌∷◌, [], refl, rules}
use Rattle.tau_journal.specs.declared.disk.memory_disk.Call.TheVariants.{Wrote}
use Rattle.tau_journal.proofs.Pushed.{bytes_noted, within_noted}
use Rattle.tau_journal.proofs.disk.memory_disk.MemoryDisk.note_write.Goals as goal

pub invariant_of-self-2 : goal.invariant_of-self-2
invariant_of-self-2 c =
    let was = c.args.self.now in
    let calls : c.push_reserved.new.self.items ≡ was.calls.items ++ Wrote c.args.at c.args.bytes ∷ [] = search rules in
    record {
      is_present = bytes_noted was.first.items was.first.items was.calls.items c.push_reserved.new.self.items (Wrote c.args.at c.args.bytes) refl calls ∙ sym c.requires.next;
      within = within_noted was.first.items was.first.items was.calls.items c.push_reserved.new.self.items (Wrote c.args.at c.args.bytes) refl calls was.within c.requires.within;
    }
