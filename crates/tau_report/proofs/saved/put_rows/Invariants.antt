use Rattle.tau_report.specs.Inner.Rows.{PutsRows}
use Rattle.tau_report.proofs.saved.put_rows.Given as goal

abbrev pub invariant-loop-who : goal.invariant-loop-who
invariant-loop-who l = PutsRows l.opening l.records l.who l.initial.out.items l.out.items
