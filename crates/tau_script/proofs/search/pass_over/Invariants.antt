use Rattle.std.proofs.Common.{◌-◌, length}
use Rattle.tau_script.specs.declared.cursor.Cursor.{Cursor}
use Rattle.tau_trace.specs.Run.{len}
use Rattle.tau_script.specs.Cursors.{PassesTo}
use Rattle.tau_script.proofs.search.pass_over.Given as goal

abbrev pub invariant-entries : goal.invariant-entries
invariant-entries l = (d : Cursor) → PassesTo l.script l.trace.run (len l.trace.run) l.cursor d → PassesTo l.script l.trace.run (len l.trace.run) l.fn.cursor d

abbrev pub decreases-entries : goal.decreases-entries
decreases-entries l = length l.script - l.cursor.entry
