-- Records read one after another: what each makes of the program and the run so far.
use Rattle.std.specs.Prelude.{◌≡◌, ℕ, ◌<◌, Bool, true, false, List, [], ◌∷◌, take, Option, Some, None}
use Rattle.tau_value.specs.declared.limits.TheConstants.{STEP_LIMIT}
use Rattle.tau_sexpr.specs.Tree.{Tree}
use Rattle.tau_sexpr.specs.Spelling.{IsSpelling}
use Rattle.tau_tree.specs.declared.programs.Program.{Program}
use Rattle.tau_trace.specs.declared.step.Step.{Step}
use Rattle.tau_trace.specs.Run.{Run, len, appended}
use Rattle.tau_trace.specs.Numbering.{born, sent}
use Rattle.tau_script.specs.declared.cursor.Cursor.{Cursor}
use Rattle.tau_steps.specs.Meaning.{MeansStep, MeansSteps}
use Rattle.tau_revival.specs.Revival.{IsRevival, IsScriptFull, LeadsOn}
use Rattle.tau_run_journal.specs.declared.faults.RecordFault.{RecordFault}
use Rattle.tau_run_journal.specs.declared.faults.RecordFault.TheVariants.{Item, ScriptFull}
use Rattle.tau_run_journal.specs.Standing.{IsProgramText, IsStepText, StandsFor}
use Rattle.tau_run_journal.specs.Reading.{IsReadAs}

-- the program whose text a record is; None where it is none's
abbrev pub TellsProgram : List ℕ → Option Program → Type 0
TellsProgram r None = (P : Program) → ¬ IsProgramText P r
TellsProgram r (Some P) = IsProgramText P r

-- the one form that a record spells; None where it spells none or several
abbrev pub TellsForm : List ℕ → Option (List Tree) → Type 0
TellsForm r None = (f : Tree) → ¬ IsSpelling r (f ∷ [])
TellsForm r (Some fs) = (f : Tree) × (fs ≡ f ∷ []) × IsSpelling r (f ∷ [])

-- forms mean the run
abbrev pub IsFormed : Run → Type 0
IsFormed T = (fs : List Tree) × MeansSteps T.opening fs T

-- the form means the step behind the run
abbrev pub MeansNext : Run → Tree → Step → Type 0
MeansNext T f s = MeansStep T.opening (born T (len T)) (sent T (len T)) f s

-- a run T goes on with the step that the form means behind it, or it means none there
abbrev pub AddsForm : Run → Tree → Run → Bool → Type 0
AddsForm T f U true = (s : Step) × MeansNext T f s × (U ≡ appended T s)
AddsForm T f U false = (s : Step) → len T < STEP_LIMIT → ¬ MeansNext T f s

-- a run T goes on with the step whose text the record is, or it is none's
abbrev pub TakesItem : Run → List ℕ → Run → Bool → Type 0
TakesItem T r U true = (s : Step) × IsStepText T s r × (U ≡ appended T s)
TakesItem T r U false = (s : Step) → ¬ IsStepText T s r

-- a program was revived, or has no room for it
abbrev pub TakesMark : Program → Run → Program → Option RecordFault → Type 0
TakesMark P T Q None = IsRevival P T Q
TakesMark P T Q (Some (ScriptFull n)) = (Q ≡ P) × IsScriptFull P n
TakesMark P T Q (Some (Item k)) = ⊥

-- record k is the first that can't stand where it does, as it neither is the text of a step nor says that the run went on
abbrev pub IsFaultyAt : List (List ℕ) → ℕ → Type 0
IsFaultyAt rs k = (P : Program) × (T : Run) × IsReadAs rs P T (Some (Item k))

-- what one pass over the first n records tells: where one of them is neither, its place alone
abbrev pub IsPassed : List (List ℕ) → ℕ → Program → Run → Cursor → Option RecordFault → Type 0
IsPassed rs n P T c None = StandsFor (take n rs) P T × LeadsOn P.script T c
IsPassed rs n P T c (Some (Item k)) = (k < n) × IsFaultyAt rs k
IsPassed rs n P T c (Some (ScriptFull m)) = IsReadAs rs P T (Some (ScriptFull m)) × LeadsOn P.script T c
