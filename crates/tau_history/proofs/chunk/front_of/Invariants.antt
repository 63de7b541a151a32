use Rattle.std.proofs.Common.{◌≡◌, ◌≤◌, length, take}
use Rattle.tau_history.specs.Chunks.{held}
use Rattle.tau_history.proofs.chunk.front_of.Given as goal

-- the front is still there
abbrev pub invariant-loop-rest : goal.invariant-loop-rest
invariant-loop-rest l = (l.count ≤ length (held l.rest)) × (take l.count (held l.rest) ≡ take l.count (held l.chunks))
