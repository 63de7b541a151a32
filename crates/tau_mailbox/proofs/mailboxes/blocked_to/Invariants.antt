use Rattle.std.proofs.Common.{◌≡◌, length, take, filter}
use Rattle.tau_mailbox.specs.Letters.{is_to}
use Rattle.tau_mailbox.specs.MailState.{is_blocked}
use Rattle.tau_mailbox.proofs.mailboxes.blocked_to.Given as goal

abbrev pub invariant-loop-who : goal.invariant-loop-who
invariant-loop-who l = l.blocked ≡ length (filter (is_to l.message) (filter (is_blocked (take l.who-index l.busy)) l.mail.letters))
