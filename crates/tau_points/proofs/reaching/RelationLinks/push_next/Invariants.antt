use Rattle.tau_points.proofs.Spans.{Walk}
use Rattle.tau_points.proofs.reaching.RelationLinks.push_next.Given as goal

abbrev pub invariant-loop-pair : goal.invariant-loop-pair
invariant-loop-pair l = Walk l.point l.pair-items l.pair-index l.fn.stack.items l.stack.items
