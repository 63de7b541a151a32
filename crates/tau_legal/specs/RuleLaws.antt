-- What every fitting trace keeps, whatever the program.
use Rattle.tau_tree.specs.declared.programs.Program.{Program}
use Rattle.tau_trace.specs.Run.{Run}
use Rattle.tau_past.specs.Safety.{KeepsRules}
use Rattle.tau_legal.specs.Traces.{Fitting}

-- the facts from which a trace is safe
abbrev pub FittingTracesKeepTheRules : Type 0
FittingTracesKeepTheRules = (P : Program) (T : Run) → Fitting P T → KeepsRules T
