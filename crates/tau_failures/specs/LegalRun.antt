-- What contracts see of a system that keeps to its program's script, and what it keeps.
use Rattle.std.specs.Prelude.{ℕ}
use Rattle.tau_tree.specs.declared.programs.Program.{Program}
use Rattle.tau_tree.specs.Sound.{Sound}
use Rattle.tau_trace.specs.Run.{Run, len}
use Rattle.tau_trace.specs.Known.{WellFormed}
use Rattle.tau_trace.specs.Numbering.{InFlight}
use Rattle.tau_trace.specs.Turns.{Turn}
use Rattle.tau_script.specs.declared.cursor.Cursor.{Cursor}
use Rattle.tau_script.specs.Cursors.{CursorAt}
use Rattle.tau_legal.specs.Traces.{Legal}
use Rattle.tau_rules.specs.System.{Core}

-- the program and the run so far, and the cursor of the script
pub record LegalRun : Type 0 where
  pub system : Core
  pub cursor : Cursor

-- the run is legal, and the cursor is the script's
pub record IsLegalRun (P : Program) (T : Run) (cursor : Cursor) : Type 0 where
  pub sound : Sound P
  pub well_formed : WellFormed T
  pub legal : Legal P T
  pub cursor_is : CursorAt P.script T (len T) cursor

-- no turn is open after the run, and no message is in flight
pub record NothingLeft (T : Run) : Type 0 where
  pub no_turn : (t place m : ℕ) → ¬ Turn T t (len T) place m
  pub none_in_flight : (m : ℕ) → ¬ InFlight T m (len T)
