-- What a command wants of its input, and that the input lacks it (docs/formats.md, "Chains", "Pictures", "Storm").
use Rattle.std.specs.Prelude.{◌≡◌, ℕ, ◌≤◌, List, length, Option, Some, None, option_map, Contains}
use Rattle.tau_tree.specs.declared.programs.Program.{Program}
use Rattle.tau_tree.specs.Sound.{behaviour_names}
use Rattle.tau_trace.specs.Run.{Run}
use Rattle.tau_explain.specs.Decisions.{IsDecision}
use Rattle.tau_picture.specs.Asking.{Allows}
use Rattle.tau_command.specs.declared.commands.TextCommand.{TextCommand}
use Rattle.tau_command.specs.declared.commands.TextCommand.TheVariants.{Why, Draw, Storm}
use Rattle.tau_command.specs.declared.storms.Question.TheVariants.{Claim, Show}
use Rattle.tau_text.specs.Meaning.{IsProgram, IsRunInput}
use Rattle.tau_output.specs.declared.refusals.Wanted.{Wanted}
use Rattle.tau_output.specs.declared.refusals.Wanted.TheVariants.{Step, Behaviour, Outcome}
use Rattle.tau_output.specs.Faults.{input_limit}
use Rattle.tau_output.specs.Storming.{LacksOutcome}

-- what a command wants of its input, if it wants anything that this may lack
abbrev pub wanted_by : TextCommand → Option Wanted
wanted_by (Why place) = Some (Step place)
wanted_by (Draw from to ask) = option_map (λ place. Step place) ask
wanted_by (Storm workers numbers (Claim name)) = Some Behaviour
wanted_by (Storm workers numbers (Show outcome)) = Some Outcome
wanted_by command = None

-- the bytes are those of a run that doesn't allow what is asked
pub record IsRunWithout (Allowed : Run → Type 0) (bytes : List ℕ) : Type 0 where
  pub program : Program
  pub run : Run
  pub read : IsRunInput bytes program run
  pub in_vain : ¬ Allowed run

-- the bytes are those of a program that has no behaviour of this name
pub record IsProgramWithout (name bytes : List ℕ) : Type 0 where
  pub program : Program
  pub spelled : IsProgram bytes program
  pub none : ¬ Contains (behaviour_names program) name

-- what the bytes lack for a command: `why` wants a Hold, a Drop or a Fall, `draw` also a Checkpoint that can't be kept, or no step;
-- `storm` a behaviour of this name, or so many outcomes
abbrev pub Lacks : TextCommand → List ℕ → Type 0
Lacks (Why place) bytes = IsRunWithout (λ T. IsDecision T place) bytes
Lacks (Draw from to ask) bytes = IsRunWithout (λ T. Allows T ask) bytes
Lacks (Storm workers numbers (Claim name)) bytes = IsProgramWithout name bytes
Lacks (Storm workers numbers (Show outcome)) bytes = LacksOutcome numbers outcome bytes
Lacks command bytes = ⊥

-- the command wants this of its input, and the bytes, which are not too many, lack it
pub record AsksInVain (command : TextCommand) (bytes : List ℕ) (wanted : Wanted) : Type 0 where
  pub wants : wanted_by command ≡ Some wanted
  pub few : length bytes ≤ input_limit
  pub lacks : Lacks command bytes
