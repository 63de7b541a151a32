use Rattle.std.proofs.Common.{◌+◌, ◌*◌, length}
use Rattle.tau_versions.specs.Search.Walks.{unmet}
use Rattle.tau_versions.specs.Search.Wanting.{test_of}
use Rattle.tau_versions.proofs.Meeting.{Walks}
use Rattle.tau_versions.proofs.search.walk.Walk.finds.Given as goal

abbrev pub invariant-walk : goal.invariant-walk
invariant-walk g l = Walks (test_of l.wanted) l.logs (g.V.HeardVersions.numbers l.heard) l.from l.self.met.items l.self.left.items

abbrev pub decreases-walk : goal.decreases-walk
decreases-walk g l = 2 * unmet l.self.met.items + length l.self.left.items
