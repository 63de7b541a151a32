use Rattle.std.proofs.Common.{◌≡◌}
use Rattle.tau_queue.specs.Inner.Scans.{AreLettersBelow}
use Rattle.tau_queue.proofs.indexing.put_letters.Given as goal

abbrev pub invariant-loop-message : goal.invariant-loop-message
invariant-loop-message l = record {
  nodes : l.mailboxes.nodes ≡ l.initial.mailboxes.nodes;
  letters : AreLettersBelow l.trace.run l.message l.mailboxes.letters;
  busy : l.mailboxes.busy ≡ l.initial.mailboxes.busy;
}
