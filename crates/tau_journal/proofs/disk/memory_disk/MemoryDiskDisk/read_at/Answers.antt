use Rattle.std.proofs.Common.{◌≡◌, ◌∙◌, ap, ap₂, List, ℕ, Some, refl, arith, length, take, drop}
use Rattle.tau_journal.specs.Disk.Calls.{held, IsImage}
use Rattle.tau_journal.specs.Disk.Memory.{state_of}
use Rattle.tau_journal.specs.declared.disk.memory_disk.Call.TheVariants.{Looked}
use Rattle.tau_journal.proofs.Answered.{time_goes, bytes_stay, images_stay}
use Rattle.tau_journal.proofs.disk.memory_disk.MemoryDiskDisk.read_at.Goals as goal

pub returns-in_err-call-clause-same : goal.returns-in_err-call-clause-same
returns-in_err-call-clause-same c = ap Some (bytes_stay (state_of c.args.self.now) (state_of c.call.new.self) Looked Looked c.call.result c.call.ensures.after refl refl)

pub returns-in_err-call-clause-time : goal.returns-in_err-call-clause-time
returns-in_err-call-clause-time c = time_goes (state_of c.args.self.now) (state_of c.call.new.self) Looked Looked c.call.result c.call.ensures.after

pub returns-in_err-call-clause-crash : goal.returns-in_err-call-clause-crash
returns-in_err-call-clause-crash c = images_stay (state_of c.args.self.now) (state_of c.call.new.self) Looked Looked c.call.result c.call.ensures.after (IsImage c.args.self.now.first.items c.args.self.now.calls.items)
    (λ e now. now) (λ e now. now) (λ e now. now)

pub returns-clause-same : goal.returns-clause-same
returns-clause-same c = ap Some (bytes_stay (state_of c.args.self.now) (state_of c.call.new.self) Looked Looked c.call.result c.call.ensures.after refl refl)

pub returns-clause-time : goal.returns-clause-time
returns-clause-time c = time_goes (state_of c.args.self.now) (state_of c.call.new.self) Looked Looked c.call.result c.call.ensures.after

pub returns-clause-crash : goal.returns-clause-crash
returns-clause-crash c = images_stay (state_of c.args.self.now) (state_of c.call.new.self) Looked Looked c.call.result c.call.ensures.after (IsImage c.args.self.now.first.items c.args.self.now.calls.items)
    (λ e now. now) (λ e now. now) (λ e now. now)

pub slice_bounds-copy_from_slice-end : goal.slice_bounds-copy_from_slice-end
slice_bounds-copy_from_slice-end c =
    let same = bytes_stay (state_of c.args.self.now) (state_of c.call.new.self) Looked Looked c.call.result c.call.ensures.after refl refl in
    omega (arith, c.requires, ap length c.bytes.ensures, ap length same)

pub returns-clause-read : goal.returns-clause-read
returns-clause-read c =
    let same : c.bytes.result.now ≡ held c.args.self.now.first.items c.args.self.now.calls.items = c.bytes.ensures ∙ bytes_stay (state_of c.args.self.now) (state_of c.call.new.self) Looked Looked c.call.result c.call.ensures.after refl refl in
    let long = c.copy_from_slice.ensures.len in
    c.copy_from_slice.ensures.after ∙ ap₂ (λ (k : ℕ) (l : List ℕ). take k (drop c.args.at l)) (omega (arith, long)) same
