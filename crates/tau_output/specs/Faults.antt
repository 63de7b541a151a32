-- The fault of the input of a command (docs/formats.md, "Input faults").
use Rattle.std.specs.Prelude.{◌≡◌, ℕ, ◌<◌, ◌≤◌, Bool, true, false, IsTrue, List, length}
use Rattle.tau_command.specs.declared.commands.TextCommand.{TextCommand}
use Rattle.tau_command.specs.declared.commands.TextCommand.TheVariants.{Run, Check, Audit, Report, Print, Gen, Drill, Migrate, Why, Cut, Draw, Storm}
use Rattle.tau_text.specs.FaultNumbers.{fault_number}
use Rattle.tau_text.specs.declared.faults.InputFault.TheVariants.{TooLong}
use Rattle.tau_text.specs.Faults.{IsProgramFault, IsRunFault, IsPrintFault}

-- how many bytes an input may have: 16 MiB
abbrev pub input_limit : ℕ
input_limit = 16777216

-- whether a command reads an input
abbrev pub reads_input : TextCommand → Bool
reads_input (Run workers jobs seed steps) = true
reads_input Check = true
reads_input Audit = true
reads_input Report = true
reads_input Print = true
reads_input (Gen number) = false
reads_input (Drill number) = false
reads_input Migrate = true
reads_input (Why place) = true
reads_input Cut = true
reads_input (Draw from to ask) = true
reads_input (Storm workers numbers question) = true

-- the first fault of bytes as the command takes them
abbrev pub IsFaultOf : TextCommand → List ℕ → ℕ → ℕ → Type 0
IsFaultOf (Run workers jobs seed steps) bytes fault at = IsProgramFault bytes fault at
IsFaultOf Check bytes fault at = IsRunFault bytes fault at
IsFaultOf Audit bytes fault at = IsRunFault bytes fault at
IsFaultOf Report bytes fault at = IsRunFault bytes fault at
IsFaultOf Print bytes fault at = IsPrintFault bytes fault at
IsFaultOf (Gen number) bytes fault at = ⊥
IsFaultOf (Drill number) bytes fault at = ⊥
IsFaultOf Migrate bytes fault at = IsRunFault bytes fault at
IsFaultOf (Why place) bytes fault at = IsRunFault bytes fault at
IsFaultOf Cut bytes fault at = IsRunFault bytes fault at
IsFaultOf (Draw from to ask) bytes fault at = IsRunFault bytes fault at
IsFaultOf (Storm workers numbers question) bytes fault at = IsProgramFault bytes fault at

-- the input of a command has this fault at this place: too many bytes first
pub data IsInputFault (command : TextCommand) (bytes : List ℕ) (fault at : ℕ) : Type 0 where
  too_long : IsTrue (reads_input command) → input_limit < length bytes → fault ≡ fault_number TooLong → at ≡ input_limit → IsInputFault command bytes fault at
  within : length bytes ≤ input_limit → IsFaultOf command bytes fault at → IsInputFault command bytes fault at
