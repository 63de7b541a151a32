use Rattle.std.proofs.Common.{◌≡◌, ◌↔◌, length}
use Rattle.tau_history.specs.Chunks.{held}
use Rattle.tau_history.proofs.chunk.same.Given as goal

-- what is left decides
abbrev pub invariant-loop-one : goal.invariant-loop-one
invariant-loop-one l = (length (held l.one) ≡ length (held l.other)) × ((held l.one ≡ held l.other) ↔ (held l.left ≡ held l.right))
