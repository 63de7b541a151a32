-- Due steps, what a script allows, and complete runs (docs/definitions.md, "Due step", "Complete").
use Rattle.std.specs.Prelude.{ℕ, ◌<◌, ◌⊎◌, Bool, true, false, IsFalse, List, Option, Some, None}
use Rattle.tau_tree.specs.declared.entries.Entry.{Entry}
use Rattle.tau_trace.specs.declared.step.Step.{Step}
use Rattle.tau_trace.specs.declared.step.Step.TheVariants as steps
use Rattle.tau_trace.specs.Run.{Run, len}
use Rattle.tau_trace.specs.Numbering.{born, InFlight}
use Rattle.tau_trace.specs.Histories.{IsLiving}
use Rattle.tau_trace.specs.Turns.{Turn}
use Rattle.tau_script.specs.declared.cursor.Cursor.{Cursor}
use Rattle.tau_script.specs.Cursors.{CursorAt, IsDueAt}

-- the step that the script makes due at place k; None where it makes none due
pub record IsDue (S : List Entry) (T : Run) (k : ℕ) (s : Option Step) : Type 0 where
  pub cursor : Cursor
  pub stands : CursorAt S T k cursor
  pub due : IsDueAt S T k cursor s

abbrev pub DueStep : List Entry → Run → ℕ → Step → Type 0
DueStep S T k s = IsDue S T k (Some s)

abbrev pub NoneDue : List Entry → Run → ℕ → Type 0
NoneDue S T k = IsDue S T k None

-- the kinds that only a script makes
abbrev pub is_failure : Step → Bool
is_failure (steps.Fail t) = true
is_failure (steps.Lose m) = true
is_failure (steps.Repeat m) = true
is_failure s = false

-- the script allows the step at place k: it is the due step, or none is due and it is neither a Fail nor a
-- Lose nor a Repeat
abbrev pub Allows : List Entry → Run → ℕ → Step → Type 0
Allows S T k s = DueStep S T k s ⊎ (NoneDue S T k × IsFalse (is_failure s))

-- a step of a script that has its object: a Fail of a transactor that exists and has not ended, a Lose or a Repeat of a message
-- in flight
pub data HasObject (T : Run) (k : ℕ) : Step → Type 0 where
  fails : {t : ℕ} → t < born T k → IsLiving T t k → HasObject T k (steps.Fail t)
  loses : {m : ℕ} → InFlight T m k → HasObject T k (steps.Lose m)
  repeats : {m : ℕ} → InFlight T m k → HasObject T k (steps.Repeat m)

-- the run is complete: no step of the script is due, no turn is open, and no message is in flight
pub record IsComplete (S : List Entry) (T : Run) : Type 0 where
  pub none_due : NoneDue S T (len T)
  pub no_turn : (t place m : ℕ) → ¬ Turn T t (len T) place m
  pub none_in_flight : (m : ℕ) → ¬ InFlight T m (len T)
