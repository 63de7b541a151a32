use Rattle.std.proofs.Common.{◌≡◌, take, filter}
use Rattle.tau_mailbox.specs.Letters.{is_at}
use Rattle.tau_mailbox.specs.Order.{all_of}
use Rattle.tau_mailbox.proofs.order.Order.at_node.Given as goal

abbrev pub invariant-loop-block : goal.invariant-loop-block
invariant-loop-block l = l.found.items ≡ filter (is_at l.node) (all_of (take l.block-index l.block-items))
