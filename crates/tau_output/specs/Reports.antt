-- What the command `report` writes.
use Rattle.std.specs.Prelude.{ℕ, List}
use Rattle.tau_tree.specs.declared.programs.Program.{Program}
use Rattle.tau_trace.specs.Run.{Run}
use Rattle.tau_report.specs.Report.{IsReportText}
use Rattle.tau_text.specs.Meaning.{IsRunInput}

-- for an input of these bytes `report` writes this text: that of the report of its program and its run
pub record ReportsAs (bytes text : List ℕ) : Type 0 where
  pub program : Program
  pub run : Run
  pub read : IsRunInput bytes program run
  pub is_text : IsReportText program run text
