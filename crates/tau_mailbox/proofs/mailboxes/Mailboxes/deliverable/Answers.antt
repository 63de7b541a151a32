use Rattle.std.proofs.Common.{◌+◌, ◌-◌, ◌/◌, ◌∙◌, arith}
use Rattle.tau_mailbox.specs.MailState.{is_deliverable}
use Rattle.tau_mailbox.proofs.Lists.{length-filter-le}
use Rattle.tau_mailbox.proofs.Counting.{search-start, search-higher, search-lower, search-end, passed-le}
use Rattle.tau_mailbox.proofs.mailboxes.Mailboxes.deliverable.Goals as goal

pub overflow_sub-high : goal.overflow_sub-high
overflow_sub-high c =
    omega (arith, rw (← c.self.view_is) at c.deliverable_len-count.ensures, c.len.ensures.len, length-filter-le (is_deliverable c.self.inside.busy.items) c.self.inside.mail.letters)

pub loop-low-init : goal.loop-low-init
loop-low-init c =
    rw (← c.self.view_is)
    (search-start (is_deliverable c.self.inside.busy.items) c.self.inside.mail.letters c.args.k c.deliverable_len-count.result c.len.result (rw (← c.self.view_is) at c.deliverable_len-count.ensures) c.len.ensures.len c.if-count-k.false)

pub loop-low-preserved-then-passed-k : goal.loop-low-preserved-then-passed-k
loop-low-preserved-then-passed-k c =
    let middle = c.loop-low.low + (c.loop-low.high - c.loop-low.low) / 2 in
    search-higher (is_deliverable c.args.self.now.busy) c.args.self.now.letters c.args.k c.loop-low.low c.loop-low.high middle c.passed-passed.result c.loop-low.invariant (omega arith) (omega (arith, c.loop-low-test.true)) c.passed-passed.ensures (omega (arith, c.if-passed-k.true))

pub overflow_add-low-then-passed-k : goal.overflow_add-low-then-passed-k
overflow_add-low-then-passed-k c =
    let middle = c.loop-low.low + (c.loop-low.high - c.loop-low.low) / 2 in
    let next = search-higher (is_deliverable c.args.self.now.busy) c.args.self.now.letters c.args.k c.loop-low.low c.loop-low.high middle c.passed-passed.result c.loop-low.invariant (omega arith) (omega (arith, c.loop-low-test.true)) c.passed-passed.ensures (omega (arith, c.if-passed-k.true)) in
    omega (arith, next.ordered, c.loop-low.auto.high-fits)

pub overflow_sub-high-else-passed-k-3 : goal.overflow_sub-high-else-passed-k-3
overflow_sub-high-else-passed-k-3 c =
    omega (arith, passed-le (is_deliverable c.args.self.now.busy) c.args.self.now.letters (c.loop-low.low + (c.loop-low.high - c.loop-low.low) / 2) c.passed-passed.result c.passed-passed.ensures)

pub loop-low-preserved : goal.loop-low-preserved
loop-low-preserved c =
    let middle = c.loop-low.low + (c.loop-low.high - c.loop-low.low) / 2 in
    search-lower (is_deliverable c.args.self.now.busy) c.args.self.now.letters c.args.k c.loop-low.low c.loop-low.high middle c.passed-passed.result c.loop-low.invariant (omega arith) (omega (arith, c.loop-low-test.true)) c.passed-passed.ensures (omega (arith, c.if-passed-k.false))

pub returns : goal.returns
returns c =
    rw (← c.self.view_is)
    (c.at.ensures
    ∙ search-end (is_deliverable c.self.inside.busy.items) c.self.inside.mail.letters c.args.k c.loop-low.low c.loop-low.high (rw (← c.self.view_is) at c.loop-low.invariant) c.loop-low-test.false)
