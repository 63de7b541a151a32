-- Which answers tell that a step was appended.
use Rattle.std.specs.Prelude.{Bool, true, false, Result, Ok, Err}
use Rattle.tau_book.specs.declared.answers.Next.{Next}
use Rattle.tau_book.specs.declared.answers.Next.TheVariants as nexts
use Rattle.tau_book.specs.declared.answers.Told.{Told}
use Rattle.tau_book.specs.declared.answers.Told.TheVariants as tolds

abbrev pub appends : Next → Bool
appends nexts.Complete = false
appends nexts.Stopped = false
appends (nexts.Idle out) = false
appends (nexts.Work job) = false
appends nexts.Stepped = true

abbrev pub has_stepped : {E : Type 0} → Result Next E → Bool
has_stepped (Ok a) = appends a
has_stepped (Err e) = false

abbrev pub tells_step : Told → Bool
tells_step tolds.Stopped = false
tells_step (tolds.Later back) = true
tells_step (tolds.Stale ended_by) = false
tells_step tolds.Redone = false
tells_step tolds.Stepped = true

abbrev pub has_made : {E : Type 0} → Result Told E → Bool
has_made (Ok a) = tells_step a
has_made (Err e) = false
