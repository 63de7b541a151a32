-- What is read of the records of a journal, and the fault of a disk (docs/journal.md, "Faults").
use Rattle.std.specs.Prelude.{◌≡◌, ◌≢◌, ◌⊎◌, ℕ, ◌≤◌, List, length, take, slice_get, Option, Some, None}
use Rattle.tau_tree.specs.declared.programs.Program.{Program}
use Rattle.tau_trace.specs.declared.step.Step.{Step}
use Rattle.tau_trace.specs.Run.{Run}
use Rattle.tau_journal.specs.Records.{AreRecords, going_on}
use Rattle.tau_journal.specs.Found.{IsFault}
use Rattle.tau_journal.specs.Room.{most_bytes}
use Rattle.tau_journal.specs.declared.errors.JournalError.{JournalError}
use Rattle.tau_journal.specs.declared.errors.JournalError.TheVariants.{Fault}
use Rattle.tau_revival.specs.Revival.{IsScriptFull}
use Rattle.tau_run_journal.specs.declared.faults.RecordFault.{RecordFault}
use Rattle.tau_run_journal.specs.declared.faults.RecordFault.TheVariants.{Item, ScriptFull}
use Rattle.tau_run_journal.specs.Standing.{IsProgramText, IsStepText, StandsFor}

-- the first record isn't the text of a program
pub record HasNoProgram (rs : List (List ℕ)) : Type 0 where
  pub first : List ℕ
  pub is_first : slice_get rs 0 ≡ Some first
  pub none : (P : Program) → ¬ IsProgramText P first

-- the first k records stand for the program and the run, and record k is this
pub record StandsTo (rs : List (List ℕ)) (k : ℕ) (P : Program) (T : Run) (r : List ℕ) : Type 0 where
  pub stand : StandsFor (take k rs) P T
  pub next : slice_get rs k ≡ Some r

-- behind the run the record is neither the text of a step, nor says that the run went on
pub record IsNoItem (T : Run) (r : List ℕ) : Type 0 where
  pub no_mark : r ≢ going_on
  pub no_step : (s : Step) → ¬ IsStepText T s r

-- what is read of records: all of them stand for the program and the run, or those before the first with a fault
abbrev pub IsReadAs : List (List ℕ) → Program → Run → Option RecordFault → Type 0
IsReadAs rs P T None = StandsFor rs P T
IsReadAs rs P T (Some (Item k)) = (r : List ℕ) × StandsTo rs k P T r × IsNoItem T r
IsReadAs rs P T (Some (ScriptFull n)) = (k : ℕ) × StandsTo rs k P T going_on × IsScriptFull P n

-- the number and the place of the fault of a record
abbrev pub error_of : RecordFault → JournalError
error_of (Item k) = Fault 4 k
error_of (ScriptFull n) = Fault 6 n

-- records have a fault: the first is no program, or those before a later one stand for a program and a run and it has one
pub data IsRecordsFault (rs : List (List ℕ)) (fault at : ℕ) : Type 0 where
  in_first : fault ≡ 3 → at ≡ 0 → HasNoProgram rs → IsRecordsFault rs fault at
  in_later : (P : Program) (T : Run) (e : RecordFault) → error_of e ≡ Fault fault at → IsReadAs rs P T (Some e) → IsRecordsFault rs fault at

-- the fault of a disk of these bytes, whether steps are legal left out: too many bytes, no journal, damage, or a record's
abbrev pub IsFindFault : List ℕ → ℕ → ℕ → Type 0
IsFindFault file fault at = IsFault file fault at
    ⊎ ((rs : List (List ℕ)) × (length file ≤ most_bytes) × AreRecords rs file × IsRecordsFault rs fault at)

-- the number of a fault that is told of a disk, on every disk
abbrev pub IsFindNumber : ℕ → Type 0
IsFindNumber fault = ((1 ≤ fault) × (fault ≤ 4)) ⊎ ((fault ≡ 6) ⊎ (fault ≡ 8))
