use Rattle.std.proofs.Common.{◌≡◌, ◌<◌, length}
use Rattle.std.specs.Prelude.{slice_get}
use Rattle.tau_history.specs.Chunks.{held}
use Rattle.tau_history.proofs.chunk.number_in.Given as goal

-- the number is still there
abbrev pub invariant-loop-rest : goal.invariant-loop-rest
invariant-loop-rest l = (l.k < length (held l.rest)) × (slice_get (held l.rest) l.k ≡ slice_get (held l.chunks) l.k)
