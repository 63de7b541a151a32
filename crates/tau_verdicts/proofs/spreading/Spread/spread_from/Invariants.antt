use Rattle.std.proofs.Common.{◌+◌, ◌*◌, length}
use Rattle.tau_versions.specs.Search.Walks.{unmet}
use Rattle.tau_verdicts.specs.Doomed.{takers_of}
use Rattle.tau_verdicts.specs.Spreading.{Spreads}
use Rattle.tau_verdicts.proofs.spreading.Spread.spread_from.Given as goal

abbrev pub invariant-walk : goal.invariant-walk
invariant-walk l = Spreads l.logs (takers_of l.takers) l.who l.fn.self.doomed.items l.self.doomed.items l.self.left.items

abbrev pub decreases-walk : goal.decreases-walk
decreases-walk l = 2 * unmet l.self.doomed.items + length l.self.left.items
