use Rattle.std.proofs.Common.{suc}
use Rattle.std.specs.Option.{option_map_or}
use Rattle.tau_past.proofs.Listings.{Walks}
use Rattle.tau_past.proofs.listing.carried_points.Given as goal

abbrev pub invariant-loop-next : goal.invariant-loop-next
invariant-loop-next l = Walks l.index l.place l.points.items l.next

abbrev pub decreases-loop-next : goal.decreases-loop-next
decreases-loop-next l = option_map_or suc l.next 0
