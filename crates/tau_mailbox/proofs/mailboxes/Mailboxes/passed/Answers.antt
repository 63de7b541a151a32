use Rattle.std.proofs.Common.{sym, ◌∙◌, arith}
use Rattle.tau_mailbox.proofs.Counting.{passed-by}
use Rattle.tau_mailbox.proofs.mailboxes.Mailboxes.passed.Goals as goal

pub overflow_sub-result : goal.overflow_sub-result
overflow_sub-result c =
    omega (
      arith,
      passed-by c.self.inside.busy.items c.self.inside.mail.letters c.args.place c.in-Some.letter c.blocked_to.result c.len-most.ensures.ascending (rw (← c.self.view_is) at c.requires)
          (sym c.at.ensures ∙ c.in-Some.is) (rw c.deref.ensures.value at c.blocked_to.ensures),
    )

pub returns : goal.returns
returns c =
    rw (← c.self.view_is)
    (omega (
      arith,
      passed-by c.self.inside.busy.items c.self.inside.mail.letters c.args.place c.in-Some.letter c.blocked_to.result c.len-most.ensures.ascending (rw (← c.self.view_is) at c.requires)
          (sym c.at.ensures ∙ c.in-Some.is) (rw c.deref.ensures.value at c.blocked_to.ensures),
    ))
