use Rattle.std.proofs.Common.{◌-◌}
use Rattle.tau_mailbox.specs.MailState.{is_deliverable}
use Rattle.tau_mailbox.proofs.Counting.{IsBetween}
use Rattle.tau_mailbox.proofs.mailboxes.Mailboxes.deliverable.Given as goal

abbrev pub invariant-loop-low : goal.invariant-loop-low
invariant-loop-low l = IsBetween (is_deliverable l.self.busy) l.self.letters l.k l.low l.high

abbrev pub decreases-loop-low : goal.decreases-loop-low
decreases-loop-low l = l.high - l.low
