-- The numbers of the faults of inputs (docs/formats.md, "Input faults").
use Rattle.std.specs.Prelude.{ℕ}
use Rattle.tau_text.specs.declared.faults.InputFault.{InputFault}
use Rattle.tau_text.specs.declared.faults.InputFault.TheVariants as faults

-- the number of a fault
abbrev pub fault_number : InputFault → ℕ
fault_number faults.BadByte = 1
fault_number faults.Unopened = 2
fault_number faults.Unclosed = 3
fault_number faults.BadText = 4
fault_number faults.TooDeep = 5
fault_number faults.ProgramShape = 6
fault_number faults.ProgramUnknown = 7
fault_number faults.ProgramTwice = 8
fault_number faults.ProgramLimit = 9
fault_number faults.TooLong = 10
fault_number faults.NoTrace = 11
fault_number faults.StepShape = 12
fault_number faults.StepUnknown = 13
