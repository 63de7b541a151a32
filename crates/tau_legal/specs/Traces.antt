-- Fitting, legal and complete traces (docs/definitions.md, "Fitting and legal steps", "Complete").
use Rattle.std.specs.Prelude.{◌≡◌, ℕ, Some}
use Rattle.tau_tree.specs.declared.programs.Program.{Program}
use Rattle.tau_trace.specs.declared.step.Step.{Step}
use Rattle.tau_trace.specs.Run.{Run, step_at}
use Rattle.tau_script.specs.Openings.{program_opening}
use Rattle.tau_script.specs.Scripts.{Allows, IsComplete}
use Rattle.tau_legal.specs.Fits.{Fits}

-- the opening is the program's, and each step fits after the steps before it
pub record Fitting (P : Program) (T : Run) : Type 0 where
  pub opening : T.opening ≡ program_opening P
  pub steps : (k : ℕ) (s : Step) → step_at T k ≡ Some s → Fits P T k s

-- a step is legal at place k: it fits, and the script allows it there
pub record IsLegal (P : Program) (T : Run) (k : ℕ) (s : Step) : Type 0 where
  pub fits : Fits P T k s
  pub allowed : Allows P.script T k s

-- the opening is the program's, and each step is legal after the steps before it
pub record Legal (P : Program) (T : Run) : Type 0 where
  pub opening : T.opening ≡ program_opening P
  pub steps : (k : ℕ) (s : Step) → step_at T k ≡ Some s → IsLegal P T k s

-- no step of the program's script is due after the trace, no turn is open and no message is in flight
abbrev pub Complete : Program → Run → Type 0
Complete P T = IsComplete P.script T
