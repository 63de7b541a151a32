-- The first fault of an input, by its number and place (docs/formats.md, "Input faults").
use Rattle.std.specs.Prelude.{◌≡◌, ℕ, true, false, List, length}
use Rattle.tau_sexpr.specs.Tree.{Tree}
use Rattle.tau_sexpr.specs.Spelling.{IsSpelling}
use Rattle.tau_sexpr.specs.Faults.{IsFirstFault}
use Rattle.tau_sexpr.specs.declared.faults.FormError.{FormError}
use Rattle.tau_tree.specs.declared.programs.Program.{Program}
use Rattle.tau_forms.specs.Faults as programs
use Rattle.tau_forms.specs.Meaning.{Means}
use Rattle.tau_forms.specs.declared.faults.ProgramError.{ProgramError}
use Rattle.tau_trace.specs.declared.opening.Opening.{Opening}
use Rattle.tau_script.specs.Openings.{program_opening}
use Rattle.tau_steps.specs.Faults as steps
use Rattle.tau_steps.specs.declared.errors.StepError.{StepError}
use Rattle.tau_text.specs.declared.faults.InputFault.TheVariants.{NoTrace}
use Rattle.tau_text.specs.declared.errors.InputError.TheVariants.{Fault}
use Rattle.tau_text.specs.FaultNumbers.{fault_number}
use Rattle.tau_text.specs.Errors.{of_form_error, of_program_error, of_step_error}
use Rattle.tau_text.specs.Parts.{has_trace, program_forms, step_forms}

-- bytes have a fault: they spell no forms, or spell forms with a fault of this kind
pub data HasFault (F : List Tree → ℕ → ℕ → Type 0) (bytes : List ℕ) (fault at : ℕ) : Type 0 where
  of_bytes : (e : FormError) → of_form_error e ≡ Fault fault at → IsFirstFault bytes e → HasFault F bytes fault at
  of_forms : (forms : List Tree) → IsSpelling bytes forms → F forms fault at → HasFault F bytes fault at

-- forms have a fault as those of a program
pub data ProgramFault (forms : List Tree) (fault at : ℕ) : Type 0 where
  of_program : (e : ProgramError) → of_program_error e ≡ Fault fault at → programs.IsFault forms e → ProgramFault forms fault at

-- forms have a fault as those of the steps of a trace with this opening
pub data StepsFault (o : Opening) (forms : List Tree) (fault at : ℕ) : Type 0 where
  of_step : (e : StepError) → of_step_error e ≡ Fault fault at → steps.IsFault o forms e → StepsFault o forms fault at

-- forms have a fault as those of a program and its steps: that of the program comes first
pub data PartsFault (forms : List Tree) (fault at : ℕ) : Type 0 where
  in_program : ProgramFault (program_forms forms) fault at → PartsFault forms fault at
  in_steps : (p : Program) → Means (program_forms forms) p → StepsFault (program_opening p) (step_forms forms) fault at → PartsFault forms fault at

-- the same where `(trace)` has to stand between them: that it doesn't comes first, at the number of forms
pub data MarkedFault (forms : List Tree) (fault at : ℕ) : Type 0 where
  no_trace : has_trace forms ≡ false → fault ≡ fault_number NoTrace → at ≡ length forms → MarkedFault forms fault at
  in_parts : has_trace forms ≡ true → PartsFault forms fault at → MarkedFault forms fault at

-- the first fault of bytes as `run` takes them
abbrev pub IsProgramFault : List ℕ → ℕ → ℕ → Type 0
IsProgramFault bytes fault at = HasFault ProgramFault bytes fault at

-- the first fault of bytes as `check`, `audit` and `report` take them
abbrev pub IsRunFault : List ℕ → ℕ → ℕ → Type 0
IsRunFault bytes fault at = HasFault MarkedFault bytes fault at

-- the first fault of bytes as `print` takes them
abbrev pub IsPrintFault : List ℕ → ℕ → ℕ → Type 0
IsPrintFault bytes fault at = HasFault PartsFault bytes fault at
