-- What the forms of steps tell, each the contract of a function of the crate.
use Rattle.std.specs.Prelude.{◌≡◌, ◌≢◌, ℕ, List}
use Rattle.tau_sexpr.specs.Tree.{word, list, none, more}
use Rattle.tau_trace.specs.declared.opening.Opening.{Opening}
use Rattle.tau_trace.specs.declared.step.Step.{Step}
use Rattle.tau_trace.specs.Run.{Run}
use Rattle.tau_trace.specs.Known.{WellFormed}
use Rattle.tau_steps.specs.StepForms.{step_form, step_form_at, IsWrittenAt}

-- runs of one opening whose steps are written as the same forms are the same run
abbrev pub StepFormsTellRuns : Type 0
StepFormsTellRuns = (T U : Run) → WellFormed T → WellFormed U → ((k : ℕ) → IsWrittenAt T k) → ((k : ℕ) → IsWrittenAt U k)
    → T.opening ≡ U.opening → ((k : ℕ) → step_form_at T k ≡ step_form_at U k) → T ≡ U

-- no step is written as a list of one word, as the marks of a run text are
abbrev pub NoStepFormIsAMark : Type 0
NoStepFormIsAMark = (o : Opening) (made : ℕ) (s : Step) (w : List ℕ) → step_form o made s ≢ list (more (word w) none)
