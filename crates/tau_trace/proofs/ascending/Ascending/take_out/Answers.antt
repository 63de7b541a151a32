use Rattle.std.proofs.Common.{◌<◌, ◌≡◌, length, get_or, ◌∙◌, sym, ap, subst, List, ℕ, Contains, ◌↔◌, ◌≢◌}
use Rattle.tau_trace.proofs.AscendingLemmas.{ascending-remove, members-remove, members-kept}
use Rattle.tau_trace.proofs.ascending.Ascending.take_out.Goals as goal

pub invariant_of-self : goal.invariant_of-self
invariant_of-self c =
    rw c.remove.ensures.items
    (ascending-remove c.self.inside.items.items c.in-Ok.place (rw c.deref.ensures.value at c.in-Ok.ensures.0) c.self.invariant)

pub returns-in-Ok-clause-members : goal.returns-in-Ok-clause-members
returns-in-Ok-clause-members c =
    rw (← c.self.view_is, c.remove.ensures.items)
    (members-remove c.self.inside.items.items c.in-Ok.place c.args.number c.self.invariant (rw c.deref.ensures.value at c.in-Ok.ensures.0) (rw c.deref.ensures.value at c.in-Ok.ensures.1))

pub returns-in_default-clause-members : goal.returns-in_default-clause-members
returns-in_default-clause-members c =
    let none = rw c.deref.ensures.value at c.in_default.ensures in
    rw (← c.self.view_is) (members-kept c.self.inside.items.items c.in_default.field-0 c.args.number none.1 none.2)
