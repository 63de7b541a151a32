use Rattle.std.proofs.Common.{◌≤◌, vec_len}
use Rattle.tau_mailbox.specs.Parts.{Widens}
use Rattle.tau_mailbox.proofs.parts.grow.Given as goal

abbrev pub invariant-loop-place : goal.invariant-loop-place
invariant-loop-place l = (l._place ≤ vec_len l.parts) × Widens l.fn.parts.items l.parts.items
