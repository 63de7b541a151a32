-- What contracts see of a system that follows its program's script, and what it keeps.
use Rattle.std.specs.Prelude.{◌≡◌, ◌↔◌, ℕ, Bool, true, false, List, map, filter}
use Rattle.std.specs.List.{Contains}
use Rattle.tau_mailbox.specs.declared.letter.Letter.{Letter}
use Rattle.tau_mailbox.specs.MailState.{is_deliverable}
use Rattle.tau_trace.specs.declared.step.Step.{Step}
use Rattle.tau_trace.specs.Run.{Run, len}
use Rattle.tau_trace.specs.Turns.{HasOpenTurn}
use Rattle.tau_script.specs.declared.cursor.Cursor.{Cursor}
use Rattle.tau_script.specs.Scripts.{DueStep, NoneDue}
use Rattle.tau_rules.specs.System.{Core, with_step}
use Rattle.tau_rules.specs.declared.answers.Acted.{Acted}
use Rattle.tau_rules.specs.declared.answers.Acted.TheVariants.{Reply, TurnOver, Redo}
use Rattle.tau_queue.specs.OpenTurns.{AreOpenTurns}
use Rattle.tau_queue.specs.Flight.{AreInFlight}

-- the program and the run so far, the cursor of the script, the letters of the messages in flight, the numbers of those that can
-- be delivered, and the places of the open turns
pub record ScriptedRun : Type 0 where
  pub system : Core
  pub cursor : Cursor
  pub letters : List Letter
  pub messages : List ℕ
  pub turns : List ℕ

-- these are the number of nodes, the letters of the messages in flight, the transactors in a turn and the open turns
pub record IsIndexed (T : Run) (nodes : ℕ) (letters : List Letter) (busy turns : List ℕ) : Type 0 where
  pub nodes_are : nodes ≡ T.opening.nodes
  pub letters_are : AreInFlight T letters
  pub busy_are : (t : ℕ) → Contains busy t ↔ HasOpenTurn T t (len T)
  pub turns_are : AreOpenTurns T turns

-- the numbers of the deliverable letters
abbrev pub messages_of : List ℕ → List Letter → List ℕ
messages_of busy letters = map (λ l. l.message) (filter (is_deliverable busy) letters)

-- the step that was due was appended; or none was due, and nothing is different
abbrev pub IsDueMade : ScriptedRun → ScriptedRun → Bool → Type 0
IsDueMade old new true = (s : Step) × DueStep old.system.program.script old.system.run (len old.system.run) s × (new.system ≡ with_step old.system s)
IsDueMade old new false = NoneDue old.system.program.script old.system.run (len old.system.run) × (new ≡ old)

-- where another job is the record of a turn, nothing is different
abbrev pub IsUnchangedAtRedo : ScriptedRun → ScriptedRun → Acted → Type 0
IsUnchangedAtRedo old new (Reply r) = Unit {0}
IsUnchangedAtRedo old new TurnOver = Unit {0}
IsUnchangedAtRedo old new (Redo job) = new ≡ old
