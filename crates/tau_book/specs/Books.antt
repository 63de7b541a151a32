-- What contracts see of a book, and what it keeps.
use Rattle.std.specs.Prelude.{◌≡◌, ◌≢◌, ◌<◌, ◌≤◌, ℕ, List, length}
use Rattle.std.specs.List.{AllPairs}
use Rattle.tau_value.specs.declared.limits.TheConstants.{STEP_LIMIT}
use Rattle.tau_mailbox.specs.declared.letter.Letter.{Letter}
use Rattle.tau_trace.specs.declared.step.Step.{Step}
use Rattle.tau_trace.specs.Run.{len}
use Rattle.tau_trace.specs.Known.{WellFormed}
use Rattle.tau_script.specs.declared.cursor.Cursor.{Cursor}
use Rattle.tau_script.specs.Cursors.{CursorAt}
use Rattle.tau_script.specs.Scripts.{NoneDue}
use Rattle.tau_legal.specs.Traces.{Legal, Complete}
use Rattle.tau_eval.specs.Turn.{TurnSoFar}
use Rattle.tau_rules.specs.System.{Core, with_step}
use Rattle.tau_queue.specs.Flight.{AreInFlight}
use Rattle.tau_queue.specs.ScriptedRun.{ScriptedRun}

-- the system, the letters of the messages in flight, the cursor of the script, the limit of steps, and the returned jobs
pub record Booked : Type 0 where
  pub system : Core
  pub letters : List Letter
  pub cursor : Cursor
  pub limit : ℕ
  pub store : List TurnSoFar

-- the book over a system that follows its script
abbrev pub booked : ScriptedRun → ℕ → List TurnSoFar → Booked
booked s limit store = record { system = s.system; letters = s.letters; cursor = s.cursor; limit = limit; store = store }

-- no two jobs are of one turn
abbrev pub AreOfDifferentTurns : List TurnSoFar → Type 0
AreOfDifferentTurns jobs = AllPairs (λ a b. a.place ≢ b.place) jobs

-- what holds of each book: its trace is well formed and legal and has at most `limit` steps, the letters are the messages in flight,
-- the cursor is the script's, and the returned jobs are of different turns
pub record IsBook (b : Booked) : Type 0 where
  pub well_formed : WellFormed b.system.run
  pub legal : Legal b.system.program b.system.run
  pub letters_are : AreInFlight b.system.run b.letters
  pub cursor_is : CursorAt b.system.program.script b.system.run (len b.system.run) b.cursor
  pub limited : len b.system.run ≤ b.limit
  pub few : b.limit ≤ STEP_LIMIT
  pub one_each : AreOfDifferentTurns b.store

-- what a book keeps beside that of its system: the limits, jobs of different turns, and a place for a job of each open turn
pub record IsKept (s : ScriptedRun) (limit : ℕ) (store : List TurnSoFar) (places : ℕ) : Type 0 where
  pub limited : len s.system.run ≤ limit
  pub few : limit ≤ STEP_LIMIT
  pub one_each : AreOfDifferentTurns store
  pub room : length s.turns ≤ places

-- the step was appended, and the returned jobs are these; letters and cursor are those of the longer trace
pub record IsAppended (old new : Booked) (s : Step) (store : List TurnSoFar) : Type 0 where
  pub system_is : new.system ≡ with_step old.system s
  pub limit_is : new.limit ≡ old.limit
  pub store_is : new.store ≡ store

-- the trace has as many steps as the limit
abbrev pub IsAtLimit : Booked → Type 0
IsAtLimit b = len b.system.run ≡ b.limit

-- the trace has fewer steps than the limit, and no step of the script is due
pub record GoesOn (b : Booked) : Type 0 where
  pub below : len b.system.run < b.limit
  pub none_due : NoneDue b.system.program.script b.system.run (len b.system.run)

-- the trace is complete
abbrev pub IsComplete : Booked → Type 0
IsComplete b = Complete b.system.program b.system.run
