use Rattle.std.proofs.Common.{suc}
use Rattle.std.specs.Option.{option_map_or}
use Rattle.tau_past.proofs.Listings.{Taking}
use Rattle.tau_past.proofs.listing.push_taken.Given as goal

abbrev pub invariant-loop-next : goal.invariant-loop-next
invariant-loop-next l = Taking l.index l.point l.fn.passed l.passed l.fn.points.items l.points.items l.next

abbrev pub decreases-loop-next : goal.decreases-loop-next
decreases-loop-next l = option_map_or suc l.next 0
