-- What errors tell of the faults of inputs (docs/formats.md, "Input faults").
use Rattle.std.specs.Prelude.{ℕ}
use Rattle.tau_sexpr.specs.declared.faults.FormError.{FormError}
use Rattle.tau_sexpr.specs.declared.faults.FormError.TheVariants as forms
use Rattle.tau_forms.specs.declared.faults.ProgramError.{ProgramError}
use Rattle.tau_forms.specs.declared.faults.ProgramError.TheVariants as programs
use Rattle.tau_steps.specs.declared.errors.StepError.{StepError}
use Rattle.tau_steps.specs.declared.errors.StepError.TheVariants as steps
use Rattle.tau_text.specs.FaultNumbers.{fault_number}
use Rattle.tau_text.specs.declared.faults.InputFault.TheVariants as faults
use Rattle.tau_text.specs.declared.errors.InputError.{InputError}
use Rattle.tau_text.specs.declared.errors.InputError.TheVariants.{Fault, NoMemory}

-- the numbers of the faults of bytes that spell no forms
abbrev pub of_form_error : FormError → InputError
of_form_error (forms.BadByte p) = Fault (fault_number faults.BadByte) p
of_form_error (forms.Unopened p) = Fault (fault_number faults.Unopened) p
of_form_error (forms.Unclosed p) = Fault (fault_number faults.Unclosed) p
of_form_error (forms.BadText p) = Fault (fault_number faults.BadText) p
of_form_error (forms.TooDeep p) = Fault (fault_number faults.TooDeep) p
of_form_error forms.NoMemory = NoMemory

-- the numbers of the faults of programs
abbrev pub of_program_error : ProgramError → InputError
of_program_error (programs.Shape n) = Fault (fault_number faults.ProgramShape) n
of_program_error (programs.Unknown n) = Fault (fault_number faults.ProgramUnknown) n
of_program_error (programs.Twice n) = Fault (fault_number faults.ProgramTwice) n
of_program_error (programs.Limit k) = Fault (fault_number faults.ProgramLimit) k
of_program_error programs.NoMemory = NoMemory

-- the numbers of the faults of steps
abbrev pub of_step_error : StepError → InputError
of_step_error (steps.Shape k) = Fault (fault_number faults.StepShape) k
of_step_error (steps.Unknown k) = Fault (fault_number faults.StepUnknown) k
of_step_error steps.NoMemory = NoMemory

-- an error tells one of these faults, which are given by number and place; want of memory tells nothing
abbrev pub TellsInputFault : (ℕ → ℕ → Type 0) → InputError → Type 0
TellsInputFault F (Fault fault at) = F fault at
TellsInputFault F NoMemory = Unit {0}
