use Rattle.std.proofs.Common.{◌≡◌, ◌∙◌, ◌++◌, ◌∷◌, [], refl, rules}
use Rattle.tau_journal.proofs.Pushed.{bytes_noted, within_noted, quiet_stays}
use Rattle.tau_journal.proofs.disk.memory_disk.MemoryDisk.note.Goals as goal

pub invariant_of-self-2 : goal.invariant_of-self-2
invariant_of-self-2 c =
    let was = c.args.self.now in
    let calls : c.push_reserved.new.self.items ≡ was.calls.items ++ c.args.call ∷ [] = search rules in
    record {
      is_present = bytes_noted was.first.items was.first.items was.calls.items c.push_reserved.new.self.items c.args.call refl calls ∙ quiet_stays c.args.call _ c.requires.quiet ∙ was.is_present;
      within = within_noted was.first.items was.first.items was.calls.items c.push_reserved.new.self.items c.args.call refl calls was.within c.requires.within;
    }
