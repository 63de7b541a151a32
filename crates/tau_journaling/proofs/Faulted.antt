-- Faults of calls that are told by a call above, whose answer has another type.
use Rattle.std.proofs.Common.{◌≡◌, ◌⊎◌, inl, inr, ℕ, List, length, Option, Some, None, IfSome, sym, ap, ◌∙◌, subst}
use Rattle.std.specs.Prelude.{Result, Ok, Err}
use Rattle.tau_tree.specs.declared.programs.Program.{Program}
use Rattle.tau_trace.specs.Run.{Run}
use Rattle.tau_journal.specs.Room.{too_large, IsFaultOrFailure, IsUnlessSmall}
use Rattle.tau_journal.specs.declared.errors.JournalError.{JournalError}
use Rattle.tau_journal.specs.declared.errors.JournalError.TheVariants.{Fault}
use Rattle.tau_revival.specs.Revival.{IsScriptFull}
use Rattle.tau_run_journal.proofs.Finds.{recast, no_failure}
use Rattle.tau_journaling.specs.Found.Reviving.{IsReviveFault}

-- two things that hold of one program and run hold of others that are the same
pub of_same : (F : Program → Run → Type 0) (P Q : Program) (T U : Run) → P ≡ Q → T ≡ U → F P T → F Q U
of_same F P Q T U program run f = subst (λ (X : Program). F X U) program (subst (F P) run f)

-- the lower call failed
pub failed_told : {X : Type 0} (Y : Type 0) (r : Result X JournalError) (e : JournalError) → r ≡ Err e → (fault at : ℕ) → IsFaultOrFailure {X = Y} fault at (Err e) → IsFaultOrFailure fault at r
failed_told {X = X} Y r e is fault at told = subst (λ q. IsFaultOrFailure fault at q) (sym is) (recast {X = X} {Y = Y} fault at e told)

-- where the disk tells its bytes
module _ (Faulty : List ℕ → ℕ → ℕ → Type 0) {X : Type 0} (r : Result X JournalError) where
  abbrev IsTold : Option (List ℕ) → Type 0
  IsTold told = IfSome told (λ file. (fault at : ℕ) → Faulty file fault at → IsFaultOrFailure fault at r)

  pub faulty_failed : (Y : Type 0) (e : JournalError) → r ≡ Err e → (told : Option (List ℕ)) → IfSome told (λ file. (fault at : ℕ) → Faulty file fault at → IsFaultOrFailure {X = Y} fault at (Err e)) → IsTold told
  faulty_failed Y e is None lower = tt
  faulty_failed Y e is (Some file) lower = λ fault at found. failed_told Y r e is fault at (lower fault at found)

  -- the lower call had no fault
  pub faulty_never : {Y : Type 0} (y : Y) (told : Option (List ℕ)) → IfSome told (λ file. (fault at : ℕ) → Faulty file fault at → IsFaultOrFailure {X = Y} fault at (Ok y)) → IsTold told
  faulty_never y None lower = tt
  faulty_never y (Some file) lower = λ fault at found. absurd (no_failure y fault at (lower fault at found))

-- the fault of a program that isn't revived
pub unrevived_told : {X : Type 0} (r : Result X JournalError) (P : Program) (told : Option (List ℕ)) (file : List ℕ) (need : ℕ) → told ≡ Some file
    → ((n : ℕ) → IsScriptFull P n → r ≡ Err (Fault 6 n)) → (((n : ℕ) → ¬ IsScriptFull P n) → IsUnlessSmall told need r)
    → (fault at : ℕ) → IsReviveFault P told need fault at → IsFaultOrFailure fault at r
unrevived_told r P None file need is full faulty fault at found = absurd (cc)
unrevived_told r P (Some f) file need is full faulty fault at (inl found) = inl (full at found.1 ∙ ap (λ (n : ℕ). Err (Fault n at)) (sym found.0))
unrevived_told r P (Some f) file need is full faulty fault at (inr found) = subst (λ (n : ℕ). IsFaultOrFailure n at r) (sym found.1.0) (faulty found.0 at found.1.1)

-- a disk on which a program isn't revived
pub unrevived_stays : (A : Type 0) (X : Type 0) (r : Result X JournalError) (P : Program) (told : Option (List ℕ)) (file : List ℕ) (need : ℕ) → told ≡ Some file
    → ((n : ℕ) → IsScriptFull P n → r ≡ Err (Fault 6 n)) → ((fault at : ℕ) → r ≡ Err (Fault fault at) → A) → IfSome told (λ f. (at : ℕ) → too_large (length f) need ≡ Some at → A)
    → (fault at : ℕ) → IsReviveFault P told need fault at → A
unrevived_stays A X r P None file need is full unwritten no_room fault at found = absurd (cc)
unrevived_stays A X r P (Some f) file need is full unwritten no_room fault at (inl found) = unwritten 6 at (full at found.1)
unrevived_stays A X r P (Some f) file need is full unwritten no_room fault at (inr found) = no_room at found.1.1

-- which faults come while it is
pub revive_number : (P : Program) (told : Option (List ℕ)) (need fault at : ℕ) → IsReviveFault P told need fault at → (fault ≡ 6) ⊎ (fault ≡ 8)
revive_number P told need fault at (inl found) = inl found.0
revive_number P None need fault at (inr found) = inr found.1
revive_number P (Some file) need fault at (inr found) = inr found.1.0
