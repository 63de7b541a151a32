-- What the bytes of an input mean.
use Rattle.std.specs.Prelude.{◌≡◌, ℕ, true, List}
use Rattle.tau_sexpr.specs.Tree.{Tree}
use Rattle.tau_sexpr.specs.Spelling.{IsSpelling}
use Rattle.tau_tree.specs.declared.programs.Program.{Program}
use Rattle.tau_forms.specs.Meaning.{Means}
use Rattle.tau_trace.specs.Run.{Run}
use Rattle.tau_script.specs.Openings.{program_opening}
use Rattle.tau_steps.specs.Meaning.{MeansSteps}
use Rattle.tau_text.specs.Parts.{has_trace, program_forms, step_forms}

-- bytes as `run` takes them: all their forms mean the program
pub record IsProgram (bytes : List ℕ) (p : Program) : Type 0 where
  pub forms : List Tree
  pub spelled : IsSpelling bytes forms
  pub means : Means forms p

-- the forms before `(trace)` mean the program, and those behind it the steps of the run, which begins as the program says
pub record MeansRun (forms : List Tree) (p : Program) (T : Run) : Type 0 where
  pub program : Means (program_forms forms) p
  pub steps : MeansSteps (program_opening p) (step_forms forms) T

-- the same, and `(trace)` stands there
abbrev pub MeansMarkedRun : List Tree → Program → Run → Type 0
MeansMarkedRun forms p T = (has_trace forms ≡ true) × MeansRun forms p T

-- bytes as `check`, `audit` and `report` take them: the program and the run, with `(trace)` between them
pub record IsRunInput (bytes : List ℕ) (p : Program) (T : Run) : Type 0 where
  pub forms : List Tree
  pub spelled : IsSpelling bytes forms
  pub means : MeansMarkedRun forms p T

-- bytes as `print` takes them: the program, and some run where `(trace)` stands there; else all forms are the program's
pub record IsPrintInput (bytes : List ℕ) (p : Program) : Type 0 where
  pub forms : List Tree
  pub spelled : IsSpelling bytes forms
  pub run : Run
  pub means : MeansRun forms p run
