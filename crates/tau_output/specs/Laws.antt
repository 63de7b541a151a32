-- What holds of all inputs: a command writes one text, none for an input with a fault or where it asks in vain, a storm writes the same
-- by any number of workers, an input has one fault, what `run` writes determines its program and its run, what `run` and `migrate` write
-- is accepted by the other commands, and each decision of a legal run has its ground.
use Rattle.std.specs.Prelude.{◌≡◌, ℕ, ◌≤◌, List, [], length, codes}
use Rattle.tau_sexpr.specs.Printing.{printed}
use Rattle.tau_forms.specs.Printed as forms
use Rattle.tau_command.specs.declared.commands.TextCommand.{TextCommand}
use Rattle.tau_command.specs.declared.commands.TextCommand.TheVariants.{Check, Audit, Print, Migrate, Storm}
use Rattle.tau_command.specs.declared.storms.StormNumbers.{StormNumbers}
use Rattle.tau_command.specs.declared.storms.Question.{Question}
use Rattle.tau_tree.specs.declared.programs.Program.{Program}
use Rattle.tau_trace.specs.Run.{Run, second}
use Rattle.tau_explain.specs.declared.answers.Why.TheVariants.{NoChain}
use Rattle.tau_explain.specs.Decisions.{IsGrounded, IsWhy}
use Rattle.tau_legal.specs.Traces.{Legal, Complete}
use Rattle.tau_text.specs.Meaning.{IsRunInput}
use Rattle.tau_output.specs.declared.outputs.End.{End}
use Rattle.tau_output.specs.declared.outputs.End.TheVariants.{Done, Stopped}
use Rattle.tau_output.specs.Faults.{input_limit, IsInputFault}
use Rattle.tau_output.specs.declared.refusals.Wanted.{Wanted}
use Rattle.tau_output.specs.Asking.{AsksInVain}
use Rattle.tau_output.specs.Runs.{RunsAs}
use Rattle.tau_output.specs.Migrating.{second_program, MigratesAs}
use Rattle.tau_output.specs.Writing.{Writes, WritesSerially}

-- on one thread a command writes no other text for the same bytes, and ends in no other way
abbrev pub WritesOnce : List ℕ → Type 0
WritesOnce bytes = (command : TextCommand) (end another : End) (text other : List ℕ) → WritesSerially command bytes end text → WritesSerially command bytes another other → (end ≡ another) × (text ≡ other)

-- a command writes nothing for bytes with a fault
abbrev pub WritesWithoutFault : List ℕ → Type 0
WritesWithoutFault bytes = (command : TextCommand) (end : End) (text : List ℕ) (fault at : ℕ) → Writes command bytes end text → ¬ IsInputFault command bytes fault at

-- a command writes nothing for bytes of which it asks in vain
abbrev pub WritesWhereAsked : List ℕ → Type 0
WritesWhereAsked bytes = (command : TextCommand) (end : End) (text : List ℕ) (wanted : Wanted) → Writes command bytes end text → ¬ AsksInVain command bytes wanted

-- a storm by so many workers writes no other text than by so many others, byte for byte, and ends in no other way
abbrev pub StormsAlike : List ℕ → Type 0
StormsAlike bytes = (workers others : ℕ) (numbers : StormNumbers) (question : Question) (end another : End) (text other : List ℕ) → Writes (Storm workers numbers question) bytes end text
    → Writes (Storm others numbers question) bytes another other → (end ≡ another) × (text ≡ other)

-- the bytes of an input have one fault at most
abbrev pub FailsOnce : List ℕ → Type 0
FailsOnce bytes = (command : TextCommand) (a b c d : ℕ) → IsInputFault command bytes a b → IsInputFault command bytes c d → (a ≡ c) × (b ≡ d)

-- a text that `run` writes, whatever the input, the limit and the end, determines the program, the run and the end
pub record IsSameRun {limit other : ℕ} {bytes others : List ℕ} {end another : End} {text : List ℕ} (one : RunsAs limit bytes end text) (two : RunsAs other others another text) : Type 0 where
  pub program : one.program ≡ two.program
  pub run : one.run ≡ two.run
  pub ends : end ≡ another

abbrev pub TextsTellRuns : Type 0
TextsTellRuns = (limit other : ℕ) (bytes others : List ℕ) (end another : End) (text : List ℕ) (one : RunsAs limit bytes end text) (two : RunsAs other others another text) → IsSameRun one two

-- what `check` writes for a text of `run`, by how the run ended
abbrev pub line_after : End → List ℕ
line_after Done = codes "legal complete\n"
line_after Stopped = codes "legal open\n"
line_after end = []

-- a text that `run` writes is read back as its program and its run; of it `check` says that it is legal, and complete where the run
-- was, `audit` that it is safe, and `print` writes its program
pub record IsAccepted {limit : ℕ} {bytes : List ℕ} {end : End} {text : List ℕ} (one : RunsAs limit bytes end text) : Type 0 where
  pub read : IsRunInput text one.program one.run
  pub check : Writes Check text Done (line_after end)
  pub audit : Writes Audit text Done (codes "safe\n")
  pub print : Writes Print text Done (printed (forms.printed one.program))

-- so it is where the text isn't longer than an input may be
abbrev pub RunTextsAreAccepted : Type 0
RunTextsAreAccepted = (limit : ℕ) (bytes : List ℕ) (end : End) (text : List ℕ) (one : RunsAs limit bytes end text) → length text ≤ input_limit → IsAccepted one

-- a text that `migrate` writes is read back as the program in version 2 and a run with the same steps; of it `check` says that it is
-- legal, and whether it is complete, `audit` that it is safe, `print` writes its program, and `migrate` writes it again
pub record IsMigrationAccepted {bytes text : List ℕ} (one : MigratesAs bytes Done text) : Type 0 where
  pub read : IsRunInput text (second_program one.program) (second one.run)
  pub same_steps : (second one.run).steps ≡ one.run.steps
  pub check : Complete (second_program one.program) (second one.run) → Writes Check text Done (codes "legal complete\n")
  pub check_open : ¬ Complete (second_program one.program) (second one.run) → Writes Check text Done (codes "legal open\n")
  pub audit : Writes Audit text Done (codes "safe\n")
  pub print : Writes Print text Done (printed (forms.printed (second_program one.program)))
  pub migrate : Writes Migrate text Done text

-- so it is where the text isn't longer than an input may be
abbrev pub MigratedTextsAreAccepted : Type 0
MigratedTextsAreAccepted = (bytes text : List ℕ) (one : MigratesAs bytes Done text) → length text ≤ input_limit → IsMigrationAccepted one

-- each Hold, Drop and Fall of a legal run has its ground, and `why` never answers of one that there is no chain to a cause
pub record LegalRunsAreGrounded : Type 0 where
  pub grounded : (P : Program) (T : Run) → Legal P T → IsGrounded T
  pub chained : (P : Program) (T : Run) (place : ℕ) → Legal P T → ¬ IsWhy T place NoChain
