-- What stands on a disk while a program is revived.
use Rattle.std.proofs.Common.{◌≡◌, inl, inr, ℕ, List, Option, Some, None, refl, sym, ap, ◌∙◌, subst, arith}
use Rattle.std.specs.Prelude.{Result, Ok, Err}
use Rattle.tau_tree.specs.declared.programs.Program.{Program}
use Rattle.tau_trace.specs.Run.{Run}
use Rattle.tau_journal.specs.Disk.Moments.{LeavesOnly}
use Rattle.tau_journal.proofs.Moments.{weaker}
use Rattle.tau_journal.specs.Records.{IsAtRest}
use Rattle.tau_journal.specs.Room.{IsUnlessSmall}
use Rattle.tau_journal.specs.declared.errors.JournalError.{JournalError}
use Rattle.tau_journal.specs.declared.errors.JournalError.TheVariants.{Fault, DiskFault, NoMemory}
use Rattle.tau_revival.specs.Revival.{IsRevival, IsScriptFull}
use Rattle.tau_run_journal.specs.Standing.{StandsAt, StandsForEither}
use Rattle.tau_run_journal.proofs.Kept.{leaves_at_first}
use Rattle.tau_run_journal.proofs.Finds.{recast, no_failure}
use Rattle.tau_journaling.specs.Found.Reviving.{StandsForRevival}

-- a program that is revived has room for it
pub has_room : (P Q : Program) (T : Run) → IsRevival P T Q → (n : ℕ) → ¬ IsScriptFull P n
has_room P Q T revival n full = omega (arith, full.1, revival.few)

module _ {D : Type 0} (images : D → List ℕ → Type 0) (moment : D → ℕ) (left_since : D → ℕ → List ℕ → Type 0) (P : Program) (T : Run) where
  itself : (c : List ℕ) → StandsForEither P T P T c → StandsForRevival P T c
  itself c (inl stands) = inl stands
  itself c (inr stands) = inl stands

  revived : (Q : Program) → IsRevival P T Q → (c : List ℕ) → StandsForEither P T Q T c → StandsForRevival P T c
  revived Q revival c (inl stands) = inl stands
  revived Q revival c (inr stands) = inr (Q, revival, stands)

  -- before the first call
  pub leaves_itself : ((d : D) (c : List ℕ) → left_since d (moment d) c → images d c) → (d : D) (bytes : Option (List ℕ)) (gate : ℕ) → StandsAt bytes gate P T → IsAtRest bytes (images d) gate
      → LeavesOnly moment left_since d d (StandsForRevival P T)
  leaves_itself only_now d bytes gate at rest =
      weaker moment left_since d d (StandsForEither P T P T) (StandsForRevival P T) itself (leaves_at_first images moment left_since only_now P P T T d bytes gate at rest)

  -- while it is marked
  pub leaves_revival : (Q : Program) → IsRevival P T Q → (old new : D) → LeavesOnly moment left_since old new (StandsForEither P T Q T) → LeavesOnly moment left_since old new (StandsForRevival P T)
  leaves_revival Q revival old new left = weaker moment left_since old new (StandsForEither P T Q T) (StandsForRevival P T) (revived Q revival) left

-- an error, of an answer that has another type
same_error : {X : Type 0} (d e : JournalError) → ◌≡◌ {A = Result X JournalError} (Err d) (Err e) → d ≡ e
same_error d e same = cc

pub told_again : {X Y : Type 0} (r : Result X JournalError) (e d : JournalError) → r ≡ Err e → ◌≡◌ {A = Result Y JournalError} (Err e) (Err d) → r ≡ Err d
told_again {Y = Y} r e d is same = is ∙ ap Err (same_error {X = Y} e d same)

-- the room of the disk, of an answer that has another type
of_failure : (X Y : Type 0) (told : Option (List ℕ)) (need : ℕ) (e : JournalError) → IsUnlessSmall {X = Y} told need (Err e) → IsUnlessSmall {X = X} told need (Err e)
of_failure X Y None need e small = tt
of_failure X Y (Some file) need e small = λ at large. recast {X = X} {Y = Y} 8 at e (small at large)

pub unless_failed : {X : Type 0} (Y : Type 0) (r : Result X JournalError) (e : JournalError) → r ≡ Err e → (told : Option (List ℕ)) (need : ℕ) → IsUnlessSmall {X = Y} told need (Err e) → IsUnlessSmall told need r
unless_failed {X = X} Y r e is told need small = subst (λ q. IsUnlessSmall told need q) (sym is) (of_failure X Y told need e small)

pub unless_kept : {X Y : Type 0} (x : X) (y : Y) (told : Option (List ℕ)) (need : ℕ) → IsUnlessSmall {X = Y} told need (Ok y) → IsUnlessSmall {X = X} told need (Ok x)
unless_kept x y None need small = tt
unless_kept x y (Some file) need small = λ at large. absurd (no_failure y 8 at (small at large))

-- and of one that fails before
pub unless_revived : (X : Type 0) (P : Program) (e : JournalError) → ((fault at : ℕ) → e ≡ Fault fault at → IsScriptFull P at) → ((n : ℕ) → ¬ IsScriptFull P n) → (told : Option (List ℕ)) (need : ℕ) → IsUnlessSmall {X = X} told need (Err e)
unless_revived X P e full room None need = tt
unless_revived X P (Fault fault at) full room (Some file) need = λ size large. absurd (room at (full fault at refl))
unless_revived X P DiskFault full room (Some file) need = λ size large. inr (inl refl)
unless_revived X P NoMemory full room (Some file) need = λ size large. inr (inr refl)
