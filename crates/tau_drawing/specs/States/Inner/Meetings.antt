-- The message that a step of a lane receives or loses, and Sends.
use Rattle.std.specs.Prelude.{ℕ, Option, Some, None}
use Rattle.tau_trace.specs.declared.step.Step.{Step}
use Rattle.tau_trace.specs.declared.step.Step.TheVariants.{Send}
use Rattle.tau_trace.specs.Run.{Run}
use Rattle.tau_drawing.specs.States.StateLines.{MeetsIn}

-- None where no step of the lane of t stands at place k, or one that neither receives nor loses a message
abbrev pub IsMetIn : Run → ℕ → ℕ → Option ℕ → Type 0
IsMetIn T t k None = (m : ℕ) → ¬ MeetsIn T t k m
IsMetIn T t k (Some m) = MeetsIn T t k m

-- the transactor that makes a Send
abbrev pub sender_in : Step → Option ℕ
sender_in (Send t u v) = Some t
sender_in s = None
