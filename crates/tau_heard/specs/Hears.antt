-- What is kept of a run is right up to a place.
use Rattle.std.specs.Prelude.{◌≡◌, ℕ, List, Option, Some, length, slice_get}
use Rattle.tau_trace.specs.Run.{Run, len}
use Rattle.tau_trace.specs.Numbering.{born, sent, InFlight}
use Rattle.tau_past.specs.Heard.{Heard}
use Rattle.tau_versions.specs.Logs.Told.{Told}
use Rattle.tau_versions.specs.Logs.Takes.{TellsSent}
use Rattle.tau_heard.specs.declared.own.Own.{Own}
use Rattle.tau_heard.specs.declared.letter.Letter.{Letter}
use Rattle.tau_heard.specs.declared.hearing.Hearing.{Hearing}
use Rattle.tau_versions.specs.Search.Logs.{AreLogs}
use Rattle.tau_heard.specs.Bounds.{TellsBounds, TellsHeardBy, last_number}
use Rattle.tau_heard.specs.Turns.{TellsTurn}
use Rattle.tau_heard.specs.Falls.{falling_steps}

-- what is kept of transactor t tells what it has heard at place n, and what its open turn takes along
pub record TellsOwn (T : Run) (t n : ℕ) (logs : List Told) (x : Own) : Type 0 where
  pub heard : TellsBounds T (Heard T t n) n logs t (last_number logs t) x.numbers.numbers
  pub turn : TellsTurn T t n x.roots x.touched x.depended

-- what is kept of message m tells what it has heard, and what it carries
pub record TellsLetter (T : Run) (m n : ℕ) (logs : List Told) (l : Letter) : Type 0 where
  pub heard : TellsHeardBy T m n logs l.sender
  pub roots : TellsSent T m n l.roots

-- the logs of all transactors, what is kept of each one and of each message in flight, and the number of falling steps
pub record Hears (T : Run) (n : ℕ) (logs : List Told) (own : List Own) (letters : List (Option Letter)) (falls : ℕ) : Type 0 where
  pub logs_are : AreLogs T n logs
  pub transactors : length own ≡ born T n
  pub each : (t : ℕ) (x : Own) → slice_get own t ≡ Some x → TellsOwn T t n logs x
  pub messages : length letters ≡ sent T n
  pub letter : (m : ℕ) (l : Letter) → slice_get letters m ≡ Some (Some l) → TellsLetter T m n logs l
  pub in_flight : (m : ℕ) → InFlight T m n → (l : Letter) × (slice_get letters m ≡ Some (Some l))
  pub falls_is : falls ≡ falling_steps T n

-- what is kept is right for the whole run
abbrev pub Knows : Hearing → Run → Type 0
Knows h T = Hears T (len T) h.logs.items h.own.items h.letters.items h.falls
