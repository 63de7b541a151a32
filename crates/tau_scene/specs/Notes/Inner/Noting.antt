-- The notes of steps, by the states behind them.
use Rattle.std.specs.Prelude.{◌≡◌, ℕ, ◌+◌, ◌-◌, ◌<◌, ◌≤◌, Bool, if◌then◌else◌, List, [], ◌++◌, Option, Some, None, slice_get, length, take}
use Rattle.std.specs.Option.{option_map_or}
use Rattle.tau_value.specs.declared.shared.Value.{Value}
use Rattle.tau_value.specs.Value.{val_of}
use Rattle.tau_explain.specs.declared.chains.chained.Chained.{Chained}
use Rattle.tau_tree.specs.declared.programs.Program.{Program}
use Rattle.tau_trace.specs.declared.step.Step.{Step}
use Rattle.tau_trace.specs.declared.step.Step.TheVariants.{Checkpoint}
use Rattle.tau_trace.specs.Steps.{actor}
use Rattle.tau_trace.specs.Run.{Run, len, step_at}
use Rattle.tau_states.specs.declared.state_record.StateRecord.{StateRecord}
use Rattle.tau_states.specs.Opening.{opening_states}
use Rattle.tau_states.specs.Table.{Holds}
use Rattle.tau_states.specs.Answers.{IsSavedAfter}
use Rattle.tau_cut.specs.declared.cut.Marked.{Marked}
use Rattle.tau_scene.specs.Words.Texts.{saves_text, back_text, ends_text}
use Rattle.tau_scene.specs.declared.looks.looks.StepLook.{StepLook}
use Rattle.tau_scene.specs.declared.causes.marks.StepMark.{StepMark}
use Rattle.tau_scene.specs.Causes.Looks.{falls_at, IsStepMark}
use Rattle.tau_scene.specs.Causes.Causes.{IsCauseAt}
use Rattle.tau_scene.specs.Notes.Notes.{cause_text, IsNote}
use Rattle.tau_scene.specs.Notes.Looks.{IsStepLook}

-- the run of the first k steps
abbrev pub first_steps : Run → ℕ → Run
first_steps T k = record { opening = T.opening; steps = take k T.steps }

-- the cause of the step at place k, where the run has at most 4,000 steps
pub record IsCauseOf (T : Run) (cut : List Marked) (k : ℕ) (cause : Option (List Chained)) : Type 0 where
  pub many : 4000 < len T → cause ≡ None
  pub few : len T ≤ 4000 → IsCauseAt T cut k cause

-- the last point of a chain
abbrev pub last_of : List Chained → Option Chained
last_of chain = slice_get chain (length chain - 1)

-- the parts of a note: what a Checkpoint saves, the last point of a cause, and to what a falling step leads back
abbrev pub saved_part : List (List ℕ) → Step → Option Value → List ℕ
saved_part names (Checkpoint t) (Some v) = saves_text names (val_of v)
saved_part names s v = []

abbrev pub cause_part : List (List ℕ) → Step → Option (List Chained) → List ℕ
cause_part names s None = []
cause_part names s (Some chain) = option_map_or (λ c. cause_text names s c.point) (last_of chain) []

abbrev pub fall_text : List (List ℕ) → Option Value → List ℕ
fall_text names None = ends_text
fall_text names (Some v) = back_text names (val_of v)

abbrev pub fall_part : List (List ℕ) → Bool → Option Value → List ℕ
fall_part names falls saved = if falls then fall_text names saved else []

abbrev pub note_text : List (List ℕ) → Step → Bool → Option Value → Option (List Chained) → List ℕ
note_text names s falls saved cause = saved_part names s saved ++ (cause_part names s cause ++ fall_part names falls saved)

-- what the transactor that makes the step saved before the interval in which it is after the run
abbrev pub IsSavedBy : Run → List Value → Step → Option Value → Type 0
IsSavedBy T opening s o = (t : ℕ) → actor s ≡ Some t → IsSavedAfter T opening t o

-- the note of the step at place k, by whether it is a falling step, and by the states behind it
abbrev pub IsNoteBy : Run → List Marked → ℕ → Step → Bool → List StateRecord → List ℕ → Type 0
IsNoteBy T cut k s falls records note = (P : Program) → falls ≡ falls_at T k → Holds (first_steps T (k + 1)) (opening_states P.starts) records → IsNote P T cut k s note

-- the step at place k is noted in the states
abbrev pub NotesStep : Run → ℕ → List StateRecord → List StateRecord → Type 0
NotesStep T k old new = (opening : List Value) → Holds (first_steps T k) opening old → Holds (first_steps T (k + 1)) opening new

-- what is shown of the step at place k, by the states behind it
abbrev pub IsLookBy : Run → List Marked → ℕ → StepMark → List StateRecord → StepLook → Type 0
IsLookBy T cut k mark records look =
    (P : Program) (s : Step) → step_at T k ≡ Some s → Holds (first_steps T (k + 1)) (opening_states P.starts) records → IsStepMark T cut k s mark → IsStepLook P T cut k s look

-- what is shown of the steps from a place up to another
pub record AreLooksTo (P : Program) (T : Run) (from to : ℕ) (cut : List Marked) (looks : List StepLook) : Type 0 where
  pub count_is : length looks ≡ to - from
  pub each : (row : ℕ) (s : Step) (look : StepLook) → step_at T (from + row) ≡ Some s → slice_get looks row ≡ Some look → IsStepLook P T cut (from + row) s look
