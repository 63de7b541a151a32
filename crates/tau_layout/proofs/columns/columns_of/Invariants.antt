use Rattle.tau_layout.specs.Inner.Laying.{AreColumns}
use Rattle.tau_layout.proofs.columns.columns_of.Given as goal

abbrev pub invariant-loop-rank : goal.invariant-loop-rank
invariant-loop-rank l = AreColumns l.grid l.lanes l.rank l.columns.items
