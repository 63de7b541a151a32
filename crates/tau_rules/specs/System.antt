-- What contracts see of a system, and what it keeps.
use Rattle.std.specs.Prelude.{List}
use Rattle.tau_value.specs.declared.shared.Value.{Value}
use Rattle.tau_tree.specs.declared.programs.Program.{Program}
use Rattle.tau_tree.specs.Sound.{Sound}
use Rattle.tau_trace.specs.declared.step.Step.{Step}
use Rattle.tau_trace.specs.Run.{Run, appended}
use Rattle.tau_trace.specs.Known.{WellFormed}
use Rattle.tau_states.specs.declared.state_record.StateRecord.{StateRecord}
use Rattle.tau_states.specs.Opening.{opening_states}
use Rattle.tau_states.specs.Table.{Holds}
use Rattle.tau_rules.specs.declared.records.Record.{Record}
use Rattle.tau_rules.specs.Records.{AreRecords, AreValues}
use Rattle.tau_legal.specs.Traces.{Fitting}

-- the program, and the run so far
pub record Core : Type 0 where
  pub program : Program
  pub run : Run

-- the program is sound, the run is well formed and fits it, and states, records and values are those of the run
pub record IsSystem (P : Program) (T : Run) (states : List StateRecord) (records : List Record) (values : List Value) : Type 0 where
  pub sound : Sound P
  pub well_formed : WellFormed T
  pub fitting : Fitting P T
  pub states_hold : Holds T (opening_states P.starts) states
  pub records_are : AreRecords P T records
  pub values_are : AreValues P T values

-- the system with one step more
abbrev pub with_step : Core → Step → Core
with_step c s = record { program = c.program; run = appended c.run s }
