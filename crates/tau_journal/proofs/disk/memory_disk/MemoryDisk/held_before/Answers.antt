use Rattle.std.proofs.Common.{◌≡◌, ◌∷◌, [], Some, List, ℕ, length, take, refl, sym, ◌∙◌, ap, subst, rules}
use Rattle.std.specs.Prelude.{get_or, slice_get}
use Rattle.std.proofs.lemmas.Option.{slice_get_read}
use Rattle.tau_journal.specs.Disk.Calls.{held}
use Rattle.tau_journal.specs.Disk.Inner.{IsWithin}
use Rattle.tau_journal.proofs.Stopped.{from_taken, within_at, held-next}
use Rattle.tau_journal.proofs.disk.memory_disk.MemoryDisk.held_before.Goals as goal

pub held_then-requires : goal.held_then-requires
held_then-requires c =
    let disk = c.args.self.now in
    let k = c.loop-call.call-index in
    let x = c.call-item.result in
    let here : slice_get (take c.args.count disk.calls.items) k ≡ Some x = slice_get_read (take c.args.count disk.calls.items) (length (take c.args.count disk.calls.items)) k x refl (search rules) (subst (λ l. x ≡ get_or (take c.args.count l) k x) c.deref.ensures.value c.call-item.is) in
    subst (IsWithin x) (sym c.loop-call.invariant) (within_at disk.first.items disk.calls.items k x disk.within (from_taken disk.calls.items c.args.count k x here))

pub loop-call-preserved : goal.loop-call-preserved
loop-call-preserved c =
    let disk = c.args.self.now in
    let k = c.loop-call.call-index in
    let x = c.call-item.result in
    let here : slice_get (take c.args.count disk.calls.items) k ≡ Some x = slice_get_read (take c.args.count disk.calls.items) (length (take c.args.count disk.calls.items)) k x refl (search rules) (subst (λ l. x ≡ get_or (take c.args.count l) k x) c.deref.ensures.value c.call-item.is) in
    c.in_ok-bytes-2.ensures ∙ ap (λ (b : List ℕ). held b (x ∷ [])) c.loop-call.invariant
    ∙ sym (held-next disk.first.items disk.calls.items k x (from_taken disk.calls.items c.args.count k x here))
