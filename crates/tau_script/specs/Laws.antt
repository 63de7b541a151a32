-- Laws of scripts, each the contract of a function of the crate.
use Rattle.std.specs.Prelude.{◌≡◌, ◌↔◌, ℕ, List, Option, IsFalse, suc}
use Rattle.tau_tree.specs.declared.entries.Entry.{Entry}
use Rattle.tau_trace.specs.declared.step.Step.{Step}
use Rattle.tau_trace.specs.Run.{Run, len, Agree, appended}
use Rattle.tau_script.specs.declared.cursor.Cursor.{Cursor}
use Rattle.tau_script.specs.Cursors.{CursorAt, ComesTo, IsDueAt, moved_past_due}
use Rattle.tau_script.specs.Scripts.{IsDue, DueStep, Allows, HasObject, IsComplete, is_failure}

-- at place k there is exactly one cursor, and exactly one step is due or none is
pub record IsDetermined (S : List Entry) (T : Run) (k : ℕ) : Type 0 where
  pub cursor : Cursor
  pub cursor_is : (c : Cursor) → CursorAt S T k c ↔ (c ≡ cursor)
  pub step : Option Step
  pub step_is : (s : Option Step) → IsDue S T k s ↔ (s ≡ step)

abbrev pub ScriptsAreDetermined : Type 0
ScriptsAreDetermined = (S : List Entry) (T : Run) (k : ℕ) → IsDetermined S T k

-- cursor and due step at place k are the same in both runs
pub record IsSameScript (S : List Entry) (T U : Run) (k : ℕ) : Type 0 where
  pub cursor : (c : Cursor) → CursorAt S T k c ↔ CursorAt S U k c
  pub comes : (c : Cursor) → ComesTo S T k c ↔ ComesTo S U k c
  pub step : (s : Option Step) → IsDue S T k s ↔ IsDue S U k s

-- they read the opening and the steps below k alone
abbrev pub ScriptsAreLocal : Type 0
ScriptsAreLocal = (S : List Entry) (T U : Run) (k : ℕ) → Agree T U k → IsSameScript S T U k

-- after one more step the cursor comes to where the step that was due, if one was, moves it
abbrev pub CursorsGoOn : Type 0
CursorsGoOn = (S : List Entry) (T : Run) (c : Cursor) (due : Option Step) (s : Step)
    → CursorAt S T (len T) c → IsDueAt S T (len T) c due → ComesTo S (appended T s) (suc (len T)) (moved_past_due due c)

-- a due step has its object
abbrev pub DueStepsHaveObjects : Type 0
DueStepsHaveObjects = (S : List Entry) (T : Run) (k : ℕ) (s : Step) → DueStep S T k s → HasObject T k s

-- at a complete run the script allows no Fail, no Lose and no Repeat
abbrev pub CompleteRunsHaveNoFailures : Type 0
CompleteRunsHaveNoFailures = (S : List Entry) (T : Run) (s : Step) → IsComplete S T → Allows S T (len T) s → IsFalse (is_failure s)
