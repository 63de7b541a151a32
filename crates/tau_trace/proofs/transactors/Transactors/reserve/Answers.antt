use Rattle.std.proofs.Common.{◌∙◌, ap, length, sym, ◌≡◌, Some}
use Rattle.tau_trace.specs.Living.{no_list}
use Rattle.tau_trace.proofs.LivingLemmas.{index_kept, index_ready}
use Rattle.tau_trace.proofs.transactors.Transactors.reserve.Goals as goal

pub invariant_of-self-in_err-reserve_at : goal.invariant_of-self-in_err-reserve_at
invariant_of-self-in_err-reserve_at c =
    rw c.reserve.ensures.items
    (index_kept c.self.inside.items.items c.self.inside.living.items c.reserve_at.new.lists.items c.self.inside.full c.in-Some.node (c.self.invariant.full_within c.in-Some.node c.in-Some.is) c.reserve_at.ensures.kept c.self.invariant)

pub invariant_of-self-in-Some : goal.invariant_of-self-in-Some
invariant_of-self-in-Some c =
    rw c.reserve.ensures.items
    (index_ready c.self.inside.items.items c.reserve_at.new.lists.items c.in-Some.node (c.in_ok-reserve_at.ensures.ok no_list)
    (index_kept c.self.inside.items.items c.self.inside.living.items c.reserve_at.new.lists.items (Some c.in-Some.node) c.in-Some.node (c.self.invariant.full_within c.in-Some.node c.in-Some.is) c.reserve_at.ensures.kept (rw c.in-Some.is at c.self.invariant)))
