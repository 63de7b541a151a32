use Rattle.std.proofs.Common.{rules, leb}
use Rattle.std.proofs.lemmas.List.Sorted.{IsPartitionPoint-from_clause}
use Rattle.tau_mailbox.proofs.Search.{parted-to, to-parted}
use Rattle.tau_mailbox.proofs.letters.Letters.count_to.Goals as goal

pub returns : goal.returns
returns c =
    let point = IsPartitionPoint-from_clause (λ l. leb l.message c.args.message) _ _ c.partition_point.ensures.partitioned (rw c.deref.ensures.value (parted-to c.args.message _ c.self.invariant)) (λ a r q k. search rules) in
    rw (← c.self.view_is, ← c.deref.ensures.value) (to-parted _ _ _ c.partition_point.ensures.bound point)
