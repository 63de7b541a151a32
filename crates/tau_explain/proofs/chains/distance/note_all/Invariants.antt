use Rattle.std.proofs.Common.{vec_len}
use Rattle.std.specs.HashMap.{get}
use Rattle.tau_explain.specs.Chains.Inner.Distances.{same_point}
use Rattle.tau_explain.specs.Chains.Inner.Searching.{Notes}
use Rattle.tau_explain.proofs.chains.distance.note_all.Given as goal

abbrev pub invariant-loop-point : goal.invariant-loop-point
invariant-loop-point l = Notes l.distance l.fn.points.items l.points.items (get same_point l.fn.far) (get same_point l.far) l.fn.queue.items l.queue.items

abbrev pub decreases-loop-point : goal.decreases-loop-point
decreases-loop-point l = vec_len l.points
