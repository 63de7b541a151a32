use Rattle.std.proofs.Common.{◌<◌, length}
use Rattle.tau_history.specs.Chunks.{held}
use Rattle.tau_history.proofs.chunk.Chunk.+dropping.Given as goal

-- what is left is shorter than the whole
abbrev pub invariant-drop-loop-next : goal.invariant-drop-loop-next
invariant-drop-loop-next l = length (held l.next) < length l.fn.self

abbrev pub decreases-drop-loop-next : goal.decreases-drop-loop-next
decreases-drop-loop-next l = length (held l.next)
