use Rattle.std.proofs.Common.{take}
use Rattle.std.specs.Prelude.{Contains}
use Rattle.tau_versions.specs.Search.Walks.{Comes}
use Rattle.tau_versions.specs.Search.Wanting.{test_of}
use Rattle.tau_versions.proofs.search.walk.Walk.come_to_all.Given as goal

-- the search has come to the points so far
abbrev pub invariant-loop-point : goal.invariant-loop-point
invariant-loop-point g l = Comes (test_of l.wanted) l.logs (g.V.HeardVersions.numbers l.heard) (Contains (take l.point-index l.points)) l.fn.self.met.items l.self.met.items l.fn.self.left.items l.self.left.items
