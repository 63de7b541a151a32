-- The text of a program and a run (docs/formats.md, "Run text").
use Rattle.std.specs.Prelude.{◌≡◌, ℕ, List, ◌∷◌, ◌++◌, slice_get, codes}
use Rattle.tau_sexpr.specs.Tree.{Tree, word, list, none, more}
use Rattle.tau_sexpr.specs.Printing.{printed}
use Rattle.tau_sexpr.specs.Spelling.{IsSpelling}
use Rattle.tau_tree.specs.declared.programs.Program.{Program}
use Rattle.tau_forms.specs.Printed as program_forms
use Rattle.tau_forms.specs.Meaning.{Means}
use Rattle.tau_trace.specs.Run.{Run}
use Rattle.tau_steps.specs.StepForms.{step_form_at, IsWrittenAt}
use Rattle.tau_report.specs.Report.{IsReport}

-- a mark: a list of this one word
abbrev pub mark : List ℕ → Tree
mark w = list (more (word w) none)

abbrev pub trace_mark : Tree
trace_mark = mark (codes "trace")

abbrev pub report_mark : Tree
report_mark = mark (codes "report")

-- the forms of the steps of a run: at each place that of the step there, and no others
abbrev pub AreStepForms : Run → List Tree → Type 0
AreStepForms T steps = (k : ℕ) → slice_get steps k ≡ step_form_at T k

-- the printed forms of the program, `(trace)`, the forms of the steps, `(report)`, and the forms of the report
pub record AreRunForms (P : Program) (T : Run) (forms : List Tree) : Type 0 where
  pub steps : List Tree
  pub steps_are : AreStepForms T steps
  pub report : List Tree
  pub report_is : IsReport P T report
  pub are : forms ≡ program_forms.printed P ++ (trace_mark ∷ (steps ++ (report_mark ∷ report)))

-- the text of the program and the run: these forms, one a line
pub record IsRunText (P : Program) (T : Run) (text : List ℕ) : Type 0 where
  pub forms : List Tree
  pub are : AreRunForms P T forms
  pub is : text ≡ printed forms

-- the text can be read back: it spells these forms, those of the program mean the program, and those of the steps their values
pub record IsReadBack (P : Program) (T : Run) (text : List ℕ) : Type 0 where
  pub forms : List Tree
  pub are : AreRunForms P T forms
  pub spelled : IsSpelling text forms
  pub program : Means (program_forms.printed P) P
  pub values : (k : ℕ) → IsWrittenAt T k
