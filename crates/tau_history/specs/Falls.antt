-- Chunks below a chunk have fewer numbers, so that a recursion over them ends.
use Rattle.std.specs.Prelude.{ℕ, ◌+◌, ◌≤◌, List, length, Option, None, Some}
use Rattle.std.proofs.Common.{arith}
use Rattle.std.specs.declared.sync.Arc.{Arc}
use Rattle.std.specs.declared.alloc.Global.{Global}
use Rattle.tau_history.specs.declared.chunk.Chunk.{Chunk}
use Rattle.tau_history.specs.declared.chunk.Chunk.TheShapes.{weighed-Chunk-before}
use Rattle.tau_history.specs.Chunks.{held}

-- the size of the chunks, as the check counts it, is at most one more than how many numbers they hold
pub weight_le : (chunks : Option (Arc Chunk Global)) → weighed-Chunk-before.weight Chunk (λ (y : List ℕ). length y + 1) chunks ≤ length (held chunks) + 1
weight_le None = omega arith
weight_le (Some shared) = omega arith
