-- What a storm comes to, and the run text of a serial run.
use Rattle.std.specs.Prelude.{◌≡◌, ℕ, List}
use Rattle.tau_sexpr.specs.Printing.{printed}
use Rattle.tau_tree.specs.declared.programs.Program.{Program}
use Rattle.tau_forms.specs.Printed as forms
use Rattle.tau_trace.specs.Run.{Run}
use Rattle.tau_book.specs.SerialRun.{IsSerialRun}
use Rattle.tau_storm.specs.declared.storms.Told.{Told}
use Rattle.tau_storm.specs.declared.storms.Tried.{Tried}
use Rattle.tau_storm.specs.Storms.{HasOutcomes, HasTried}
use Rattle.tau_command.specs.declared.storms.StormNumbers.{StormNumbers}
use Rattle.tau_output.specs.declared.outputs.End.{End}
use Rattle.tau_output.specs.Runs.{RunsAs}
use Rattle.tau_output.specs.Storming.{setting_of}

-- this is what the storm of a program with these numbers comes to
abbrev pub IsTold : StormNumbers → Program → Told → Type 0
IsTold n P t = HasOutcomes (setting_of n) P n.seed n.seeds t.outcomes t.totals

-- and this where a behaviour was tried as a claim
abbrev pub IsTrialOf : StormNumbers → Program → ℕ → Tried → Type 0
IsTrialOf n P behaviour t = HasTried (setting_of n) P n.seed n.seeds behaviour t.told.outcomes t.told.totals t.broken

-- the text is the run text of the serial run of a program with a seed
pub record IsSerialText (numbers : StormNumbers) (seed : ℕ) (P : Program) (text : List ℕ) : Type 0 where
  pub run : Run
  pub serial : IsSerialRun P numbers.jobs seed numbers.steps run
  pub end : End
  pub runs : RunsAs numbers.steps (printed (forms.printed P)) end text
  pub program_is : runs.program ≡ P
  pub run_is : runs.run ≡ run
