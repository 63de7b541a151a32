-- Turns (docs/definitions.md, "Turn", "Open turn").
use Rattle.std.specs.Prelude.{◌≡◌, ℕ, ◌<◌, Bool, Option, Some, None, ◌||◌}
use Rattle.tau_trace.specs.declared.step.Step.{Step}
use Rattle.tau_trace.specs.declared.step.Step.TheVariants.{Take}
use Rattle.tau_trace.specs.Steps.{ends_turn, is_take}
use Rattle.tau_trace.specs.Run.{Run, step_at, Does}

-- the turn of the Take at `place` is open for t at place k: no step of t of an ending kind and no further Take of t follows it
pub record Turn (T : Run) (t k place message : ℕ) : Type 0 where
  pub before : place < k
  pub takes : step_at T place ≡ Some (Take t message)
  pub goes_on : (j : ℕ) → place < j → j < k → ¬ Does (λ s. ends_turn s || is_take s) T t j

-- the place of the Take whose turn is open for t at place k, if a turn is
abbrev pub IsOpenTurn : Run → ℕ → ℕ → Option ℕ → Type 0
IsOpenTurn T t k None = (place message : ℕ) → ¬ Turn T t k place message
IsOpenTurn T t k (Some place) = (message : ℕ) × Turn T t k place message

-- some turn is open for t at place k
abbrev pub HasOpenTurn : Run → ℕ → ℕ → Type 0
HasOpenTurn T t k = (place : ℕ) × IsOpenTurn T t k (Some place)
