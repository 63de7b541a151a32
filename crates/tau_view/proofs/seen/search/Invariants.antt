use Rattle.std.proofs.Common.{◌+◌, ◌-◌, ◌*◌, ◌^◌, length, vec_len}
use Rattle.std.specs.List.{Contains}
use Rattle.tau_points.proofs.Searches.{Searching}
use Rattle.tau_view.proofs.seen.search.Given as goal

abbrev pub invariant-search : goal.invariant-search
invariant-search g l = Searching (g.L.Links.leads l.links) (Contains l.from) l.seen l.stack.items

abbrev pub decreases-search : goal.decreases-search
decreases-search g l = (2 ^ 63 - length l.seen) * 2 ^ 64 + vec_len l.stack
