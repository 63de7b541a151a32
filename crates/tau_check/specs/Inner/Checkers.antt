-- What the checker keeps of the steps before a place, and what it finds of the step there.
use Rattle.std.specs.Prelude.{◌≡◌, ℕ, Bool, true, false, List, Option, Some, None}
use Rattle.tau_tree.specs.declared.programs.Program.{Program}
use Rattle.tau_trace.specs.declared.step.Step.{Step}
use Rattle.tau_trace.specs.Run.{Run, len, Agree}
use Rattle.tau_trace.specs.Known.{WellFormed}
use Rattle.tau_script.specs.Scripts.{IsDue}
use Rattle.tau_legal.specs.Traces.{IsLegal, Legal}
use Rattle.tau_eval.specs.Turn as jobs
use Rattle.tau_rules.specs.System.{Core, with_step}
use Rattle.tau_check.specs.Inner.Jobs.{HasJobs}
use Rattle.tau_check.specs.Legality.{IsFirstIllegal}

-- the run is legal, and the job of each open turn is kept
pub record IsChecker (P : Program) (T : Run) (js : List (Option jobs.TurnSoFar)) : Type 0 where
  pub well_formed : WellFormed T
  pub legal : Legal P T
  pub has_jobs : HasJobs P T js

-- the checker of a legal run has asked which step is due
pub record HasAsked (P : Program) (T : Run) (due : Option Step) : Type 0 where
  pub well_formed : WellFormed T
  pub legal : Legal P T
  pub due_is : IsDue P.script T (len T) due

-- the step is legal and was appended
pub record GoesOn (old new : Core) (js : List (Option jobs.TurnSoFar)) (s : Step) : Type 0 where
  pub legal : IsLegal old.program old.run (len old.run) s
  pub appended : new ≡ with_step old s
  pub checker : IsChecker new.program new.run js

-- the step is legal and was appended; or it isn't legal
abbrev pub IsChecked : Core → Core → List (Option jobs.TurnSoFar) → Step → Bool → Type 0
IsChecked old new js s true = GoesOn old new js s
IsChecked old new js s false = ¬ IsLegal old.program old.run (len old.run) s

-- the checker has come to place k of a trace: its run is the steps before k, and each of them is legal
pub record HasCome (P : Program) (T : Run) (k : ℕ) (core : Core) (js : List (Option jobs.TurnSoFar)) : Type 0 where
  pub program : core.program ≡ P
  pub length : len core.run ≡ k
  pub agree : Agree T core.run k
  pub checker : IsChecker core.program core.run js

-- the checker has stepped through a trace to its end; or the first step that isn't legal stands at the place
abbrev pub HasSteppedTo : Program → Run → Core → List (Option jobs.TurnSoFar) → Option ℕ → Type 0
HasSteppedTo P T core js None = HasCome P T (len T) core js
HasSteppedTo P T core js (Some place) = IsFirstIllegal P T place
