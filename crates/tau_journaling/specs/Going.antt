-- What a run leaves on a disk whose journal keeps each step (docs/journal.md, "Going on").
use Rattle.std.specs.Prelude.{◌≡◌, ℕ, ◌+◌, List, Option, length}
use Rattle.tau_tree.specs.declared.programs.Program.{Program}
use Rattle.tau_trace.specs.declared.step.Step.{Step}
use Rattle.tau_trace.specs.Run.{Run, appended}
use Rattle.tau_book.specs.Onward.{BeginsWith}
use Rattle.tau_journal.specs.Room.{IsTooLarge}
use Rattle.tau_journal.specs.declared.errors.JournalError.TheVariants.{Fault}
use Rattle.tau_run_journal.specs.Standing.{IsStepText, Stands, StandsAt}

-- bytes stand for the program and a run between two: it begins with the first, and the second begins with it
pub record StandsBetween (P : Program) (old new : Run) (file : List ℕ) : Type 0 where
  pub run : Run
  pub goes_on : BeginsWith old run
  pub comes_to : BeginsWith run new
  pub stands : Stands file P run

-- the run goes on from an old one up to a last step of whose record the disk has no room; without it the disk stands for the run
pub record HasNoRoom (P : Program) (old T : Run) (bytes : Option (List ℕ)) (at : ℕ) : Type 0 where
  pub before : Run
  pub begins : BeginsWith old before
  pub step : Step
  pub run_is : T ≡ appended before step
  pub text : List ℕ
  pub is_text : IsStepText before step text
  pub gate : ℕ
  pub stands : StandsAt bytes gate P before
  pub full : IsTooLarge bytes (gate + 5 + length text + 1) (Fault 8 at)
