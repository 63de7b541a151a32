-- The open turns of a run (docs/rules.md, "Steps").
use Rattle.std.specs.Prelude.{◌<◌, ◌↔◌, ℕ, List}
use Rattle.std.specs.List.{AllPairs, Contains}
use Rattle.tau_trace.specs.Run.{Run, len}
use Rattle.tau_trace.specs.Turns.{Turn}

-- the turn of the Take at the place is open after the run
pub record IsOpenFrom (T : Run) (place : ℕ) : Type 0 where
  pub who : ℕ
  pub message : ℕ
  pub turn : Turn T who (len T) place message

-- the open turns, by the places of their Takes in ascending order
pub record AreOpenTurns (T : Run) (places : List ℕ) : Type 0 where
  pub ascending : AllPairs (λ a b. a < b) places
  pub each : (place : ℕ) → Contains places place ↔ IsOpenFrom T place
