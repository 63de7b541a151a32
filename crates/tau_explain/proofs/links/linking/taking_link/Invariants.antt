use Rattle.std.proofs.Common.{suc}
use Rattle.std.specs.Option.{option_map_or}
use Rattle.tau_explain.proofs.LinkLemmas.{Taken}
use Rattle.tau_explain.proofs.links.linking.taking_link.Given as goal

abbrev pub invariant-loop-next : goal.invariant-loop-next
invariant-loop-next l = Taken l.levels.index.now l.levels.marks.now l.levels.nearest.items l.point l.distance l.least l.next

abbrev pub decreases-loop-next : goal.decreases-loop-next
decreases-loop-next l = option_map_or suc l.next 0
