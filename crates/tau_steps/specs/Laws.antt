-- What holds of all forms of steps.
use Rattle.std.specs.Prelude.{◌≡◌, ℕ, List, Some, slice_get}
use Rattle.tau_sexpr.specs.Tree.{Tree}
use Rattle.tau_trace.specs.declared.opening.Opening.{Opening}
use Rattle.tau_trace.specs.declared.step.Step.{Step}
use Rattle.tau_trace.specs.Run.{Run, step_at}
use Rattle.tau_trace.specs.Numbering.{born, sent}
use Rattle.tau_trace.specs.Known.{WellFormed}
use Rattle.tau_steps.specs.StepForms.{step_form_at, IsWrittenAt}
use Rattle.tau_steps.specs.Meaning.{MeansStep, MeansSteps}

-- the form that a step of a trace is printed as means this step at its place
abbrev pub PrintedStepsMeanThemselves : Type 0
PrintedStepsMeanThemselves = (T : Run) → WellFormed T → (k : ℕ) (f : Tree) (s : Step) → IsWrittenAt T k → step_form_at T k ≡ Some f → step_at T k ≡ Some s → MeansStep T.opening (born T k) (sent T k) f s

-- the forms that the steps of a trace are printed as mean the trace
abbrev pub PrintedTracesMeanThemselves : Type 0
PrintedTracesMeanThemselves = (T : Run) (fs : List Tree) → WellFormed T → ((k : ℕ) → IsWrittenAt T k) → ((k : ℕ) → slice_get fs k ≡ step_form_at T k) → MeansSteps T.opening fs T

-- forms mean the steps of one run at most
abbrev pub FormsMeanOneRun : Type 0
FormsMeanOneRun = (o : Opening) (fs : List Tree) (T U : Run) → MeansSteps o fs T → MeansSteps o fs U → T ≡ U

-- what the forms that the steps of a trace are printed as mean is the trace
abbrev pub PrintedTracesAreReadBack : Type 0
PrintedTracesAreReadBack = (T U : Run) (fs : List Tree) → WellFormed T → ((k : ℕ) → IsWrittenAt T k) → ((k : ℕ) → slice_get fs k ≡ step_form_at T k) → MeansSteps T.opening fs U → U ≡ T
