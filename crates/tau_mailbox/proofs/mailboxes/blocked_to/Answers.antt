use Rattle.std.proofs.Common.{◌+◌, take, arith}
use Rattle.tau_mailbox.specs.Letters.{is_to}
use Rattle.tau_mailbox.specs.MailState.{is_blocked}
use Rattle.tau_mailbox.proofs.Counting.{blocked-none, blocked-step, blocked-le}
use Rattle.tau_mailbox.proofs.mailboxes.blocked_to.Goals as goal

pub loop-who-init : goal.loop-who-init
loop-who-init c = blocked-none (is_to c.args.message) c.args.mail.now.letters

pub overflow_add-blocked : goal.overflow_add-blocked
overflow_add-blocked c =
    omega (
      arith,
      c.loop-who.invariant,
      c.count_for-blocked.ensures,
      blocked-step c.args.message c.args.busy.now c.loop-who.who-index 0 c.args.mail.now.letters c.requires (omega arith),
      blocked-le (is_to c.args.message) (is_blocked (take (c.loop-who.who-index + 1) c.args.busy.now)) c.args.mail.now.letters,
      c.len-most.ensures.len,
      c.len-most.type_inv,
    )

pub loop-who-preserved : goal.loop-who-preserved
loop-who-preserved c =
    omega (
      arith,
      c.loop-who.invariant,
      c.count_for-blocked.ensures,
      blocked-step c.args.message c.args.busy.now c.loop-who.who-index 0 c.args.mail.now.letters c.requires (omega arith),
    )
