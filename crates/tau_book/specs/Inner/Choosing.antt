-- What the inner functions of a choice need, and what they leave.
use Rattle.std.specs.Prelude.{◌≡◌, ◌<◌, ◌≤◌, ℕ, List, length}
use Rattle.tau_value.specs.declared.limits.TheConstants.{STEP_LIMIT}
use Rattle.tau_trace.specs.Run.{len}
use Rattle.tau_script.specs.Scripts.{NoneDue}
use Rattle.tau_eval.specs.Turn.{TurnSoFar}
use Rattle.tau_queue.specs.OpenTurns.{AreOpenTurns}
use Rattle.tau_queue.specs.Flight.{AreDeliverable}
use Rattle.tau_queue.specs.ScriptedRun.{ScriptedRun}
use Rattle.tau_book.specs.Hands.{Held}
use Rattle.tau_book.specs.Books.{AreOfDifferentTurns}

-- a hand can choose: the run can grow, its open turns and deliverable messages are these, no step of the script is due, the returned
-- jobs are of different turns, and there is a place for a job of each open turn
pub record CanChoose (s : ScriptedRun) (store : List TurnSoFar) (places : ℕ) : Type 0 where
  pub few : len s.system.run < STEP_LIMIT
  pub turns_are : AreOpenTurns s.system.run s.turns
  pub messages_are : AreDeliverable s.system.run s.messages
  pub none_due : NoneDue s.system.program.script s.system.run (len s.system.run)
  pub one_each : AreOfDifferentTurns store
  pub room : length s.turns ≤ places

-- a choice leaves returned jobs of different turns, a place for a job of each open turn, and a hand with room for as many jobs
pub record IsChosen (s : ScriptedRun) (store : List TurnSoFar) (places : ℕ) (h k : Held) : Type 0 where
  pub one_each : AreOfDifferentTurns store
  pub room : length s.turns ≤ places
  pub size_is : k.size ≡ h.size
