use Rattle.std.proofs.Common.{◌≡◌, length}
use Rattle.tau_trace.specs.Run.{len}
use Rattle.tau_past.specs.Inner.Searching.{IsComplete}
use Rattle.tau_past.proofs.Breaches.{Checking}
use Rattle.tau_past.proofs.auditing.first_breach.Given as goal

abbrev pub invariant-loop-place : goal.invariant-loop-place
invariant-loop-place l = record {
  complete : IsComplete l.index l.found l.passed.items;
  checking : Checking l.index l.place l.found;
  length : length l.passed.items ≡ len l.index;
}
