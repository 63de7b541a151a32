-- What a scan of a run has found below a bound.
use Rattle.std.specs.Prelude.{◌<◌, ◌↔◌, ℕ, List}
use Rattle.std.specs.List.{AllPairs, Contains}
use Rattle.tau_mailbox.specs.declared.letter.Letter.{Letter}
use Rattle.tau_mailbox.specs.Letters.{IsAscending}
use Rattle.tau_trace.specs.Run.{Run, len}
use Rattle.tau_trace.specs.Turns.{HasOpenTurn}
use Rattle.tau_queue.specs.OpenTurns.{IsOpenFrom}
use Rattle.tau_queue.specs.Flight.{IsWaiting}

-- the letters are those of the messages in flight below n
pub record AreLettersBelow (T : Run) (n : ℕ) (ls : List Letter) : Type 0 where
  pub ascending : IsAscending ls
  pub each : (l : Letter) → Contains ls l ↔ ((l.message < n) × IsWaiting T l)

-- the numbers are those below n that have P, in ascending order
pub record AreThoseBelow (P : ℕ → Type 0) (n : ℕ) (numbers : List ℕ) : Type 0 where
  pub ascending : AllPairs (λ a b. a < b) numbers
  pub each : (k : ℕ) → Contains numbers k ↔ ((k < n) × P k)

-- the transactors below n that are in a turn, and the places below n from which a turn is open
abbrev pub AreInTurnBelow : Run → ℕ → List ℕ → Type 0
AreInTurnBelow T n busy = AreThoseBelow (λ t. HasOpenTurn T t (len T)) n busy

abbrev pub AreOpenBelow : Run → ℕ → List ℕ → Type 0
AreOpenBelow T n places = AreThoseBelow (IsOpenFrom T) n places
