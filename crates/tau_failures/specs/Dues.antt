-- What a script makes due, as a step (docs/rules.md, "Scripts").
use Rattle.std.specs.Prelude.{Option, Some, None}
use Rattle.tau_trace.specs.declared.step.Step.{Step}
use Rattle.tau_trace.specs.declared.step.Step.TheVariants as steps
use Rattle.tau_failures.specs.declared.dues.Due.{Due}
use Rattle.tau_failures.specs.declared.dues.Due.TheVariants as dues

-- the step by which it is made
abbrev pub step_of : Due → Step
step_of (dues.Fail t) = steps.Fail t
step_of (dues.Lose m) = steps.Lose m
step_of (dues.Repeat m) = steps.Repeat m

-- the due step; None where nothing is due
abbrev pub due_step : Option Due → Option Step
due_step None = None
due_step (Some d) = Some (step_of d)
