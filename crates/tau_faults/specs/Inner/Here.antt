-- What is known of the faults at one place while they are listed.
use Rattle.std.specs.Prelude.{◌≡◌, ◌⊎◌, ◌↔◌, ◌<◌, ◌%◌, ℕ, List, Contains, length}
use Rattle.std.specs.List.{AllPairs}
use Rattle.tau_value.specs.declared.limits.TheConstants.{ENTRY_LIMIT}
use Rattle.tau_tree.specs.declared.entries.Failure.{Failure}
use Rattle.tau_tree.specs.declared.programs.Program.{Program}
use Rattle.tau_tree.specs.Sound.{IsSoundFailure}
use Rattle.tau_trace.specs.Run.{Run, len}
use Rattle.tau_script.specs.declared.cursor.Cursor.{Cursor}
use Rattle.tau_script.specs.Cursors.{CursorAt}
use Rattle.tau_script.specs.Scripts.{NoneDue}
use Rattle.tau_faults.specs.declared.setting.FaultCounts.{FaultCounts}
use Rattle.tau_faults.specs.Faults.{IsEffective, left_of, rank_of, object_of, ComesFirst}

-- the fault comes, in the order of faults at one place, before that of kind r with number n
abbrev pub IsBefore : ℕ → ℕ → Failure → Type 0
IsBefore r n f = (rank_of f < r) ⊎ ((rank_of f ≡ r) × (object_of f < n))

-- those of the faults that do something after the run, where so many are left, that come before the one of kind r with number n
pub record AreThoseBefore (left : FaultCounts) (P : Program) (T : Run) (r n : ℕ) (faults : List Failure) : Type 0 where
  pub ordered : AllPairs ComesFirst faults
  pub all : (f : Failure) → Contains faults f ↔ (IsBefore r n f × (0 < left_of left f) × IsEffective P T (len T) f)

-- the faults that do something after the run, where so many are left
pub record AreEffective (left : FaultCounts) (P : Program) (T : Run) (faults : List Failure) : Type 0 where
  pub ordered : AllPairs ComesFirst faults
  pub all : (f : Failure) → Contains faults f ↔ ((0 < left_of left f) × IsEffective P T (len T) f)

-- a fault can come before the step at place k
pub record CanCome (every : ℕ) (P : Program) (T : Run) (k : ℕ) (f : Failure) : Type 0 where
  pub none_due : NoneDue P.script T k
  pub multiple : k % every ≡ 0
  pub effective : IsEffective P T k f
  pub room : length P.script < ENTRY_LIMIT

-- the faults that can come before the step at place k, where the cursor stands at c, in their order
pub record AreFaultsHere (every : ℕ) (left : FaultCounts) (P : Program) (T : Run) (k : ℕ) (c : Cursor) (faults : List Failure) : Type 0 where
  pub ordered : AllPairs ComesFirst faults
  pub can : (f : Failure) → Contains faults f → (0 < left_of left f) × CanCome every P T k f × CursorAt P.script T k c
  pub all : (f : Failure) → 0 < left_of left f → CanCome every P T k f → Contains faults f

-- the script may have the fault as one more entry
pub record CanBePlaced (left : FaultCounts) (P : Program) (f : Failure) : Type 0 where
  pub some : 0 < left_of left f
  pub sound : IsSoundFailure P.nodes P.version f
