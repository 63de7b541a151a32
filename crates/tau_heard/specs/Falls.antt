-- Falling steps, counted.
use Rattle.std.specs.Prelude.{ℕ, Bool, false, option_and_then}
use Rattle.std.specs.Option.{option_map_or}
use Rattle.tau_trace.specs.Steps.{actor}
use Rattle.tau_trace.specs.Run.{Run, step_at}
use Rattle.tau_trace.specs.Histories.{move_at, is_fall}
use Rattle.tau_trace.specs.Places.{count_below}

-- whether a falling step stands at place k
abbrev pub falls_at : Run → ℕ → Bool
falls_at T k = option_map_or (λ t. is_fall (move_at T t k)) (option_and_then actor (step_at T k)) false

-- how many stand before place n
abbrev pub falling_steps : Run → ℕ → ℕ
falling_steps T n = count_below (falls_at T) n
