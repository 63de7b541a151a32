use Rattle.std.proofs.Common.{◌≡◌, length}
use Rattle.tau_layout.specs.Inner.Laying.{AreRanks}
use Rattle.tau_layout.proofs.columns.ranks_of.Given as goal

abbrev pub invariant-loop-rank : goal.invariant-loop-rank
invariant-loop-rank l = AreRanks l.lanes l.rank l.ranks.items × (length l.ranks.items ≡ l.born)
