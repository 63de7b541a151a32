-- The fault of a disk from which a run is to go on (docs/journal.md, "Faults").
use Rattle.std.specs.Prelude.{◌≡◌, ◌⊎◌, ℕ, ◌≤◌, List, length, Some}
use Rattle.tau_tree.specs.declared.programs.Program.{Program}
use Rattle.tau_trace.specs.declared.step.Step.{Step}
use Rattle.tau_trace.specs.Run.{Run, len}
use Rattle.tau_legal.specs.Traces.{IsLegal, Legal}
use Rattle.tau_journal.specs.Records.{AreRecords}
use Rattle.tau_journal.specs.Found.{IsFault}
use Rattle.tau_journal.specs.Room.{most_bytes}
use Rattle.tau_journal.specs.declared.errors.JournalError.TheVariants.{Fault}
use Rattle.tau_run_journal.specs.declared.faults.RecordFault.{RecordFault}
use Rattle.tau_run_journal.specs.Standing.{IsStepText}
use Rattle.tau_run_journal.specs.Reading.{HasNoProgram, StandsTo, IsReadAs, error_of}

-- records before one stand for the program and a legal run of it, and that one is the text of a step that isn't legal there
pub record HasIllegalStep (rs : List (List ℕ)) (P : Program) (T : Run) : Type 0 where
  pub place : ℕ
  pub text : List ℕ
  pub step : Step
  pub stand : StandsTo rs place P T text
  pub is_text : IsStepText T step text
  pub legal : Legal P T
  pub illegal : ¬ IsLegal P T (len T) step

-- records have a fault: the first is no program; or those before a later one stand for a program and a legal run of it, and
-- the later one can't stand there, or its step isn't legal there, which is told by the step's place
pub data IsRunFault (rs : List (List ℕ)) (fault at : ℕ) : Type 0 where
  in_first : fault ≡ 3 → at ≡ 0 → HasNoProgram rs → IsRunFault rs fault at
  in_later : (P : Program) (T : Run) (e : RecordFault) → error_of e ≡ Fault fault at → Legal P T → IsReadAs rs P T (Some e) → IsRunFault rs fault at
  in_step : (P : Program) (T : Run) → fault ≡ 5 → at ≡ len T → HasIllegalStep rs P T → IsRunFault rs fault at

-- the fault of a disk of these bytes: too many bytes, no journal, damage, or a record's
abbrev pub IsResumeFault : List ℕ → ℕ → ℕ → Type 0
IsResumeFault file fault at = IsFault file fault at
    ⊎ ((rs : List (List ℕ)) × (length file ≤ most_bytes) × AreRecords rs file × IsRunFault rs fault at)

-- the number of a fault that is told of such a disk, on every disk
abbrev pub IsResumeNumber : ℕ → Type 0
IsResumeNumber fault = ((1 ≤ fault) × (fault ≤ 6)) ⊎ (fault ≡ 8)
