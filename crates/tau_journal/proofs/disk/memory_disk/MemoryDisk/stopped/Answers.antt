use Rattle.std.proofs.Common.{◌≡◌, ◌+◌, Some, [], List, ℕ, length, take, refl, sym, ◌∙◌, ap, ap₂, subst}
use Rattle.std.specs.Prelude.{slice_get, Option}
use Rattle.std.proofs.lemmas.Option.{slice_get_read}
use Rattle.tau_journal.specs.Disk.Calls.{IsImage}
use Rattle.tau_journal.specs.Disk.Inner.{IsWithin}
use Rattle.tau_journal.specs.Disk.Memory.{DiskState}
use Rattle.tau_journal.specs.Disk.Stops.{stopped_by}
use Rattle.tau_journal.specs.declared.disk.memory_disk.Call.{Call}
use Rattle.tau_journal.proofs.Stopped.{was_made, within_at, image_at}
use Rattle.tau_journal.proofs.disk.memory_disk.MemoryDisk.stopped.Goals as goal

pub written_by-requires-clause-within : goal.written_by-requires-clause-within
written_by-requires-clause-within c =
    let disk = c.args.self.now in
    let cs = disk.calls.items in
    let made : slice_get cs c.args.call ≡ Some c.index.result.now = slice_get_read cs (length cs) c.args.call c.index.result.now refl (was_made cs c.args.call c.args.kept (slice_get cs c.args.call) refl c.requires) c.index.ensures in
    subst (IsWithin c.index.result.now) (sym (c.deref.ensures.value ∙ c.in_ok-before.ensures)) (within_at disk.first.items cs c.args.call c.index.result.now disk.within made)

pub returns-clause-stopped : goal.returns-clause-stopped
returns-clause-stopped c =
    let disk = c.args.self.now in
    let cs = disk.calls.items in
    let made : slice_get cs c.args.call ≡ Some c.index.result.now = slice_get_read cs (length cs) c.args.call c.index.result.now refl (was_made cs c.args.call c.args.kept (slice_get cs c.args.call) refl c.requires) c.index.ensures in
    let first = c.in_ok-first.ensures ∙ ap₂ (λ (o : Option Call) (b : List ℕ). stopped_by c.args.kept o b) (sym made) (c.deref.ensures.value ∙ c.in_ok-before.ensures) in
    c.new-2.ensures ∙ ap₂ (λ (f l : List ℕ). record { first = f; calls = []; fails = l; faults = 0 }) first c.new.ensures.items

pub returns-clause-image : goal.returns-clause-image
returns-clause-image c =
    let disk = c.args.self.now in
    let cs = disk.calls.items in
    let made : slice_get cs c.args.call ≡ Some c.index.result.now = slice_get_read cs (length cs) c.args.call c.index.result.now refl (was_made cs c.args.call c.args.kept (slice_get cs c.args.call) refl c.requires) c.index.ensures in
    let first = c.in_ok-first.ensures ∙ ap₂ (λ (o : Option Call) (b : List ℕ). stopped_by c.args.kept o b) (sym made) (c.deref.ensures.value ∙ c.in_ok-before.ensures) in
    subst (IsImage disk.first.items (take (c.args.call + 1) cs)) (sym (ap (λ (s : DiskState). s.first) c.new-2.ensures ∙ first)) (image_at disk.first.items cs c.args.call c.args.kept disk.within (slice_get cs c.args.call) refl c.requires)
