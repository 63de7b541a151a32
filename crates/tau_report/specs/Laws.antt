-- Laws of reports, each the contract of a function of the crate.
use Rattle.std.specs.Prelude.{◌≡◌, List}
use Rattle.tau_sexpr.specs.Tree.{Tree}
use Rattle.tau_tree.specs.declared.programs.Program.{Program}
use Rattle.tau_trace.specs.Run.{Run}
use Rattle.tau_report.specs.Report.{IsReport}

-- a program and a run have one report
abbrev pub ReportsAreUnique : Type 0
ReportsAreUnique = (P : Program) (T : Run) (forms others : List Tree) → IsReport P T forms → IsReport P T others → forms ≡ others
