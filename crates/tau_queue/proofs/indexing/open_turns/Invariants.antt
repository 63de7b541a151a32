use Rattle.std.proofs.Common.{◌≡◌}
use Rattle.tau_queue.specs.Inner.Scans.{AreInTurnBelow}
use Rattle.tau_queue.proofs.indexing.open_turns.Given as goal

abbrev pub invariant-loop-who : goal.invariant-loop-who
invariant-loop-who l = record {
  nodes : l.mailboxes.nodes ≡ l.initial.mailboxes.nodes;
  letters : l.mailboxes.letters ≡ l.initial.mailboxes.letters;
  busy : AreInTurnBelow l.trace.run l.who l.mailboxes.busy;
}
