-- What contracts see of the type `History`.
use Rattle.std.specs.Prelude.{ℕ}
use Rattle.tau_history.specs.Timeline.{Timeline}

-- the history, and how many intervals it can close without memory
pub record Stored : Type 0 where
  pub history : Timeline
  pub spare : ℕ
