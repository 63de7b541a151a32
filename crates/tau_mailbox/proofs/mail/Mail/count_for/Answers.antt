use Rattle.std.proofs.Common.{◌≤◌, length, filter, sym, ap}
use Rattle.tau_mailbox.specs.declared.letter.Letter.{Letter}
use Rattle.std.proofs.Common.{List}
use Rattle.tau_mailbox.specs.Letters.{is_to}
use Rattle.tau_mailbox.proofs.Consistency.{no-home}
use Rattle.tau_mailbox.proofs.mail.Mail.count_for.Goals as goal

pub returns-in-None : goal.returns-in-None
returns-in-None c =
    let far : length c.self.inside.parts.items ≤ c.args.who = rw c.deref.ensures.value at c.in-None.ensures.lookup.3 in
    rw (← c.self.view_is) (sym (ap (λ (ls : List Letter). length (filter (is_to c.args.message) ls)) (no-home c.self.inside.nodes c.self.inside.parts.items c.self.inside.order.letters c.args.who c.self.invariant far)))
