use Rattle.std.proofs.Common.{◌≡◌, ◌++◌, take, filter}
use Rattle.tau_mailbox.specs.Letters.{is_at}
use Rattle.tau_mailbox.proofs.letters.Letters.put_at_node.Given as goal

abbrev pub invariant-loop-letter : goal.invariant-loop-letter
invariant-loop-letter l = l.found.items ≡ l.fn.found.items ++ filter (is_at l.node) (take l.letter-index l.letter-items)
