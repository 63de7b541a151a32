use Rattle.std.proofs.Common.{ap, sym, subst, ◌∙◌, ◌≡◌}
use Rattle.tau_trace.specs.Living.{IsLeastLiving, no_list}
use Rattle.tau_trace.specs.Ascending.{WithRoom, IsLeastMember}
use Rattle.tau_trace.proofs.LivingLemmas.{least_living, least_at}
use Rattle.tau_trace.proofs.transactors.Transactors.first_living.Goals as goal

pub returns : goal.returns
returns c =
    rw (← c.self.view_is)
    (least_living c.self.inside.items.items c.self.inside.living.items c.self.inside.full c.args.node c.args.from c.first_from.result c.self.invariant
    (least_at c.args.from c.in_ok-get.field-0.now _ c.first_from.result (rw c.deref.ensures.value at (c.in_ok-get.ensures.lookup.3.1 no_list)) c.first_from.ensures))
