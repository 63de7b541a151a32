-- What the parts of `act` answer (docs/rules.md, "Steps").
use Rattle.std.specs.Prelude.{◌≡◌, ◌≢◌, ℕ, IsTrue, Option, Some, None}
use Rattle.tau_value.specs.declared.shared.Value.{Value}
use Rattle.tau_value.specs.Value.{val_of}
use Rattle.tau_trace.specs.declared.step.Step.{Step}
use Rattle.tau_trace.specs.declared.step.Step.TheVariants.{Take}
use Rattle.tau_trace.specs.Steps.{ends_turn}
use Rattle.tau_trace.specs.Run.{Run, len, step_at}
use Rattle.tau_states.specs.Opening.{opening_states}
use Rattle.tau_legal.specs.Turns.{Replies}
use Rattle.tau_legal.specs.Fits.{IsStepOfTurn}
use Rattle.tau_legal.specs.Choices.{goes_on}
use Rattle.tau_legal.specs.declared.choices.Choice.{Choice}
use Rattle.tau_legal.specs.declared.choices.Choice.TheVariants.{GoesOn, Ends}
use Rattle.tau_rules.specs.System.{Core, with_step}

-- the transactor of the Take at a place; None where none stands there
abbrev pub IsTaker : Run → ℕ → Option ℕ → Type 0
IsTaker T place None = (t m : ℕ) → step_at T place ≢ Some (Take t m)
IsTaker T place (Some t) = (m : ℕ) × (step_at T place ≡ Some (Take t m))

-- a step of t's open turn was appended
pub record IsMadeBy (old new : Core) (t : ℕ) (s : Step) : Type 0 where
  pub step : IsStepOfTurn old.program old.run t s
  pub appended : new ≡ with_step old s

-- the step of the next effect of t's open turn was appended: the turn goes on with a reply, or is over
abbrev pub IsMade : Core → Core → ℕ → Option Value → Type 0
IsMade old new t (Some r) = (s : Step) × IsMadeBy old new t s × IsTrue (goes_on s) × Replies old.run (opening_states old.program.starts) (len old.run) s (val_of r)
IsMade old new t None = (s : Step) × IsMadeBy old new t s × IsTrue (ends_turn s)

-- the step that is chosen
abbrev pub step_of : Choice → Step
step_of (GoesOn s reply) = s
step_of (Ends s) = s
