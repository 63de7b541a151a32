-- What was asked for.
use Rattle.std.specs.Prelude.{◌≡◌, ℕ, ◌<◌, List, Option, Some, None}
use Rattle.tau_explain.specs.declared.chains.chained.Chained.{Chained}
use Rattle.tau_trace.specs.Run.{Run, len}
use Rattle.tau_explain.specs.Decisions.{IsDecision}
use Rattle.tau_cut.specs.declared.cut.Marked.{Marked}
use Rattle.tau_scene.specs.Causes.Causes.{IsCauseAt}
use Rattle.tau_picture.specs.declared.asking.Asked.{Asked}
use Rattle.tau_picture.specs.declared.asking.Asked.TheVariants as asked
use Rattle.tau_picture.specs.Asking.{Allows}

-- the place that was asked for, and its cause
abbrev pub place_asked : Asked → Option ℕ
place_asked asked.Nothing = None
place_asked (asked.Step k cause) = Some k

abbrev pub cause_asked : Asked → Option (List Chained)
cause_asked asked.Nothing = None
cause_asked (asked.Step k cause) = cause

-- the place stands in the run
abbrev pub IsWithin : Run → Asked → Type 0
IsWithin T asked.Nothing = Unit {0}
IsWithin T (asked.Step k cause) = k < len T

-- the cause is that of the step
abbrev pub TellsCause : Run → List Marked → Asked → Type 0
TellsCause T cut asked.Nothing = Unit {0}
TellsCause T cut (asked.Step k cause) = IsCauseAt T cut k cause

-- what was asked for, which may be
pub record Tells (T : Run) (cut : List Marked) (ask : Option ℕ) (a : Asked) : Type 0 where
  pub allowed : Allows T ask
  pub place : place_asked a ≡ ask
  pub within : IsWithin T a
  pub cause : TellsCause T cut a

-- what was asked for; None where it may not be
abbrev pub IsAsked : Run → List Marked → Option ℕ → Option Asked → Type 0
IsAsked T cut ask None = ¬ Allows T ask
IsAsked T cut ask (Some a) = Tells T cut ask a

-- the step at place k, which has no cause; None where it is no decision
abbrev pub IsAskedWithout : Run → ℕ → Option Asked → Type 0
IsAskedWithout T k None = ¬ IsDecision T k
IsAskedWithout T k (Some a) = IsDecision T k × (a ≡ asked.Step k None)
