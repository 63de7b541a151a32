-- The messages in flight, and those of them that can be delivered (docs/rules.md, "Messages in flight", "Choice of a worker").
use Rattle.std.specs.Prelude.{◌<◌, ◌↔◌, ℕ, List, None}
use Rattle.std.specs.List.{AllPairs, Contains}
use Rattle.tau_mailbox.specs.declared.letter.Letter.{Letter}
use Rattle.tau_mailbox.specs.Letters.{IsAscending}
use Rattle.tau_trace.specs.Run.{Run, len}
use Rattle.tau_trace.specs.Numbering.{Receives, IsHome, InFlight}
use Rattle.tau_trace.specs.Turns.{IsOpenTurn}

-- the message of the letter is in flight after the run, and its receiver and the receiver's node are the letter's
pub record IsWaiting (T : Run) (l : Letter) : Type 0 where
  pub in_flight : InFlight T l.message (len T)
  pub receiver : Receives T l.message l.who
  pub home : IsHome T l.who l.node

-- the letters are those of the messages in flight, by ascending message
pub record AreInFlight (T : Run) (ls : List Letter) : Type 0 where
  pub ascending : IsAscending ls
  pub each : (l : Letter) → Contains ls l ↔ IsWaiting T l

-- message m is in flight, and its receiver is in no turn
pub record IsDeliverable (T : Run) (m : ℕ) : Type 0 where
  pub receiver : ℕ
  pub receives : Receives T m receiver
  pub in_flight : InFlight T m (len T)
  pub idle : IsOpenTurn T receiver (len T) None

-- the deliverable messages, in ascending order
pub record AreDeliverable (T : Run) (messages : List ℕ) : Type 0 where
  pub ascending : AllPairs (λ a b. a < b) messages
  pub each : (m : ℕ) → Contains messages m ↔ IsDeliverable T m
