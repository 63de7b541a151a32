use Rattle.std.proofs.Common.{◌≡◌, [], All, vec_len}
use Rattle.tau_trace.specs.Ascending.{WithRoom}
use Rattle.tau_trace.proofs.transactors.empty_lists.Given as goal

abbrev pub invariant-loop-node : goal.invariant-loop-node
invariant-loop-node l = (vec_len l.lists ≡ l._node) × All (λ (a : WithRoom). (a.numbers ≡ []) × (a.room ≡ 1)) l.lists.items
