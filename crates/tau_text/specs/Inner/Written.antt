-- What is added to a text, where a run text is made.
use Rattle.std.specs.Prelude.{◌≡◌, ℕ, ◌<◌, List, [], ◌∷◌, ◌++◌, length, Some, slice_get}
use Rattle.tau_sexpr.specs.Tree.{Tree}
use Rattle.tau_sexpr.specs.Printing.{printed}
use Rattle.tau_sexpr.specs.Spelling.{IsSpelling}
use Rattle.tau_tree.specs.declared.programs.Program.{Program}
use Rattle.tau_trace.specs.Run.{Run}
use Rattle.tau_steps.specs.StepForms.{step_form_at, IsWrittenAt}
use Rattle.tau_report.specs.Report.{IsReport}

-- the new text is the old one and that of these forms, which spells them
pub record AddsForms (forms : List Tree) (old new : List ℕ) : Type 0 where
  pub new_is : new ≡ old ++ printed forms
  pub spelled : IsSpelling (printed forms) forms

-- the new text is the old one and that of the form of the step at place k, which spells it; its value is read back
pub record AddsStep (T : Run) (k : ℕ) (old new : List ℕ) : Type 0 where
  pub form : Tree
  pub form_is : Some form ≡ step_form_at T k
  pub value : IsWrittenAt T k
  pub added : AddsForms (form ∷ []) old new

-- the new text is the old one and that of the forms of the first n steps
pub record AddsSteps (T : Run) (n : ℕ) (old new : List ℕ) : Type 0 where
  pub steps : List Tree
  pub count : length steps ≡ n
  pub each : (k : ℕ) → k < n → slice_get steps k ≡ step_form_at T k
  pub values : (k : ℕ) → k < n → IsWrittenAt T k
  pub added : AddsForms steps old new

-- the new text is the old one and that of the report
pub record AddsReport (P : Program) (T : Run) (old new : List ℕ) : Type 0 where
  pub report : List Tree
  pub report_is : IsReport P T report
  pub added : AddsForms report old new
