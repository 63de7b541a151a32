use Rattle.std.proofs.Common.{◌≡◌, take, ◌++◌}
use Rattle.tau_picture.specs.Said.{chain_text}
use Rattle.tau_picture.proofs.said.put_chain.Given as goal

abbrev pub invariant-loop-chained : goal.invariant-loop-chained
invariant-loop-chained l = l.text.items ≡ l.fn.text.items ++ chain_text l.names (take l.chained-index l.chained-items)
