-- What refusals tell.
use Rattle.std.specs.Prelude.{ℕ}
use Rattle.tau_text.specs.declared.errors.InputError.{InputError}
use Rattle.tau_text.specs.declared.errors.InputError.TheVariants as inputs
use Rattle.tau_output.specs.declared.refusals.Refusal.{Refusal}
use Rattle.tau_output.specs.declared.refusals.Refusal.TheVariants.{Fault, Lacking, NoMemory}
use Rattle.tau_output.specs.declared.refusals.Wanted.{Wanted}

-- the refusal for an error
abbrev pub of_input_error : InputError → Refusal
of_input_error (inputs.Fault fault at) = Fault fault at
of_input_error inputs.NoMemory = NoMemory

-- where a refusal tells a fault, it is one of these, which are given by number and place
abbrev pub TellsFault : (ℕ → ℕ → Type 0) → Refusal → Type 0
TellsFault F (Fault fault at) = F fault at
TellsFault F refusal = Unit {0}

-- where a refusal tells what is lacking, it is one of these
abbrev pub TellsLacking : (Wanted → Type 0) → Refusal → Type 0
TellsLacking U (Lacking wanted) = U wanted
TellsLacking U refusal = Unit {0}
