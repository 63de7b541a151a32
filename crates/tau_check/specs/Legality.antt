-- What the check of a trace answers (docs/definitions.md, "Fitting and legal steps", "Complete").
use Rattle.std.specs.Prelude.{◌≡◌, ◌↔◌, ℕ, ◌<◌, IsTrue, Some}
use Rattle.tau_tree.specs.declared.programs.Program.{Program}
use Rattle.tau_trace.specs.declared.step.Step.{Step}
use Rattle.tau_trace.specs.Run.{Run, step_at}
use Rattle.tau_legal.specs.Traces.{IsLegal, Legal, Complete}
use Rattle.tau_check.specs.declared.checking.Legality.{Legality}
use Rattle.tau_check.specs.declared.checking.Legality.TheVariants as answers

-- the step at the place isn't legal, and each step before it is
pub record IsFirstIllegal (P : Program) (T : Run) (place : ℕ) : Type 0 where
  pub step : Step
  pub stands : step_at T place ≡ Some step
  pub illegal : ¬ IsLegal P T place step
  pub earlier : (k : ℕ) (s : Step) → k < place → step_at T k ≡ Some s → IsLegal P T k s

-- the trace is legal, and complete or not; or its first step that isn't legal stands at the place
abbrev pub IsLegality : Program → Run → Legality → Type 0
IsLegality P T (answers.Legal complete) = Legal P T × (IsTrue complete ↔ Complete P T)
IsLegality P T (answers.Bad place) = IsFirstIllegal P T place
