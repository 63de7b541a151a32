use Rattle.tau_trace.proofs.MessageRecords.{index_opened}
use Rattle.tau_trace.proofs.trace.Trace.begin.Goals as goal

pub invariant_of-result : goal.invariant_of-result
invariant_of-result c =
    rw (c.new.ensures.items, c.new-2.ensures.items)
    (index_opened c.args.opening c.in_ok-transactors.transactors c.in_ok-messages.messages.items c.requires (rw c.items.ensures at c.in_ok-transactors.ensures.transactors) c.in_ok-transactors.ensures.nodes (rw c.items-2.ensures at c.in_ok-messages.ensures))
