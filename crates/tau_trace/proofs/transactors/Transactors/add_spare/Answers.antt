use Rattle.std.proofs.Common.{◌∙◌, ap, length, ◌<◌, sym, ◌≡◌, None, Bool, true, arith, refl, All, get_or, subst, Option, List, ℕ}
use Rattle.tau_trace.specs.Ascending.{WithRoom}
use Rattle.tau_trace.specs.Living.{IsLivingIndex, ChangesAt, Gains}
use Rattle.tau_trace.proofs.LivingLemmas.{below_count, index_added, no_full}
use Rattle.tau_trace.proofs.transactors.Transactors.add_spare.Goals as goal

pub put_at-requires-clause-last : goal.put_at-requires-clause-last
put_at-requires-clause-last c = λ d k e h.
    let within : c.args.transactor.home < length c.self.inside.living.items = rw (← c.self.view_is) at c.requires.home in
    let below = below_count c.self.inside.items.items c.self.inside.living.items c.self.inside.full c.args.transactor.home within c.self.invariant d k e h in
    omega (arith, below, c.len-who.ensures, c.self.inside.items.ok.0)

pub invariant_of-self : goal.invariant_of-self
invariant_of-self c =
    let old = c.self.inside.living.items in
    let ts = c.self.inside.items.items in
    let none : c.self.inside.full ≡ None = no_full _ _ (rw (← c.self.view_is) at c.requires.ready) in
    let who : c.len-who.result ≡ length ts = omega (arith, c.len-who.ensures, c.self.inside.items.ok.0) in
    let gains : ChangesAt c.args.transactor.home (Gains (length ts)) old c.put_at.new.lists.items = rw who at c.put_at.ensures in
    let before : IsLivingIndex ts old None = rw none at c.self.invariant in
    rw c.push_reserved.ensures.items
    (index_added ts old c.put_at.new.lists.items c.args.transactor (rw (← c.self.view_is) at c.requires.home) c.requires.living gains before)
