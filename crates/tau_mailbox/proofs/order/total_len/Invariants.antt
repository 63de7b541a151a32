use Rattle.std.proofs.Common.{◌≡◌, length, take}
use Rattle.tau_mailbox.specs.Order.{all_of}
use Rattle.tau_mailbox.proofs.order.total_len.Given as goal

abbrev pub invariant-loop-block : goal.invariant-loop-block
invariant-loop-block l = l.total ≡ length (all_of (take l.block-index l.blocks))
