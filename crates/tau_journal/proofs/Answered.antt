-- What follows from the answer of a call of a disk in memory, whatever it is.
use Rattle.std.proofs.Common.{◌≡◌, ℕ, List, length, sym, ◌∙◌, ap, subst}
use Rattle.std.specs.Prelude.{Some, Result, Ok, Err, OnOk, IsErrOf}
use Rattle.tau_journal.specs.Disk.Bytes.{overwritten, Torn, Follows}
use Rattle.tau_journal.specs.Disk.Moments.{Elapses}
use Rattle.tau_journal.specs.Disk.Calls.{held, TornFrom, IsImage, WasImage}
use Rattle.tau_journal.specs.Disk.Inner.{torn_same}
use Rattle.tau_journal.specs.Disk.Memory.{DiskState, Calls}
use Rattle.tau_journal.specs.declared.disk.disks.DiskError.{DiskError}
use Rattle.tau_journal.specs.declared.disk.disks.DiskError.TheVariants.{Failed, NoMemory}
use Rattle.tau_journal.specs.declared.disk.memory_disk.Call.{Call}
use Rattle.tau_journal.specs.declared.disk.memory_disk.Call.TheVariants.{Looked, Wrote, Tore, Synced}
use Rattle.tau_journal.proofs.Pushed.{held_after, left_after, bytes_noted, image_noted, time_noted, elapses_same}

module _ {X : Type 0} (s t : DiskState) (done torn : Call) where
  pub time_goes : (r : Result X DiskError) → Calls s r done torn t → Elapses (length s.calls) (length t.calls) (WasImage s.first s.calls) (WasImage t.first t.calls) (IsImage t.first t.calls)
  time_goes (Ok x) is = time_noted s.first t.first s.calls t.calls done (ap (λ u. u.first) is.1) (ap (λ u. u.calls) is.1)
  time_goes (Err Failed) is = time_noted s.first t.first s.calls t.calls torn (ap (λ u. u.first) is.1) (ap (λ u. u.calls) is.1)
  time_goes (Err NoMemory) is = subst (λ (u : DiskState). Elapses (length s.calls) (length u.calls) (WasImage s.first s.calls) (WasImage u.first u.calls) (IsImage u.first u.calls)) (sym is) (elapses_same s.first s.calls)

  -- where both notes leave the bytes
  pub bytes_stay : (r : Result X DiskError) → Calls s r done torn t → held_after done (held s.first s.calls) ≡ held s.first s.calls → held_after torn (held s.first s.calls) ≡ held s.first s.calls → held t.first t.calls ≡ held s.first s.calls
  bytes_stay (Ok x) is quiet quiet_too = bytes_noted s.first t.first s.calls t.calls done (ap (λ u. u.first) is.1) (ap (λ u. u.calls) is.1) ∙ quiet
  bytes_stay (Err Failed) is quiet quiet_too = bytes_noted s.first t.first s.calls t.calls torn (ap (λ u. u.first) is.1) (ap (λ u. u.calls) is.1) ∙ quiet_too
  bytes_stay (Err NoMemory) is quiet quiet_too = ap (λ (u : DiskState). held u.first u.calls) is

  -- where both notes add no image
  pub images_stay : (r : Result X DiskError) → Calls s r done torn t → (Q : List ℕ → Type 0)
      → ((c : List ℕ) → left_after done (IsImage s.first s.calls) (held s.first s.calls) c → Q c)
      → ((c : List ℕ) → left_after torn (IsImage s.first s.calls) (held s.first s.calls) c → Q c)
      → ((c : List ℕ) → IsImage s.first s.calls c → Q c)
      → (c : List ℕ) → IsImage t.first t.calls c → Q c
  images_stay (Ok x) is Q by_done by_torn by_none c now = by_done c (image_noted s.first t.first s.calls t.calls done (ap (λ u. u.first) is.1) (ap (λ u. u.calls) is.1) c now)
  images_stay (Err Failed) is Q by_done by_torn by_none c now = by_torn c (image_noted s.first t.first s.calls t.calls torn (ap (λ u. u.first) is.1) (ap (λ u. u.calls) is.1) c now)
  images_stay (Err NoMemory) is Q by_done by_torn by_none c now = by_none c (subst (λ (u : DiskState). IsImage u.first u.calls c) is now)

-- a write
module _ {X : Type 0} (s t : DiskState) (at : ℕ) (bytes : List ℕ) where
  pub written_after : (r : Result X DiskError) → Calls s r (Wrote at bytes) (Tore at bytes) t → OnOk r (Some (held t.first t.calls) ≡ Some (overwritten (held s.first s.calls) at bytes))
  written_after (Ok x) is = ap Some (bytes_noted s.first t.first s.calls t.calls (Wrote at bytes) (ap (λ u. u.first) is.1) (ap (λ u. u.calls) is.1))
  written_after (Err Failed) is = tt
  written_after (Err NoMemory) is = tt

  pub torn_after : (r : Result X DiskError) → Calls s r (Wrote at bytes) (Tore at bytes) t → Follows (Torn at (length bytes)) (IsImage s.first s.calls) (IsImage t.first t.calls)
  torn_after r is = images_stay s t (Wrote at bytes) (Tore at bytes) r is (TornFrom (IsImage s.first s.calls) at (length bytes)) (λ c now. now) (λ c now. now) (λ c now. (c, now, torn_same at (length bytes) c))

  pub same_without_memory : (r : Result X DiskError) → Calls s r (Wrote at bytes) (Tore at bytes) t → IsErrOf r NoMemory → t ≡ s
  same_without_memory (Ok x) is none = absurd (cc)
  same_without_memory (Err Failed) is none = absurd (cc)
  same_without_memory (Err NoMemory) is none = is

-- a sync
module _ {X : Type 0} (s t : DiskState) where
  pub durable_after : (r : Result X DiskError) → Calls s r Synced Looked t → OnOk r ((c : List ℕ) → IsImage t.first t.calls c → c ≡ held s.first s.calls)
  durable_after (Ok x) is = image_noted s.first t.first s.calls t.calls Synced (ap (λ u. u.first) is.1) (ap (λ u. u.calls) is.1)
  durable_after (Err Failed) is = tt
  durable_after (Err NoMemory) is = tt
