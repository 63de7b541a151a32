use Rattle.std.proofs.Common.{◌≡◌, ◌≤◌, ℕ, IfSome, length}
use Rattle.tau_trace.specs.Run.{Run, len}
use Rattle.tau_journal.specs.Disk.Moments.{LeavesOnly}
use Rattle.tau_journal.specs.Records.{IsAtRest}
use Rattle.tau_journal.specs.Room.{most_bytes}
use Rattle.tau_journal.specs.Gates.{gate_of}
use Rattle.tau_run_journal.specs.Standing.{StandsAt}
use Rattle.tau_book.specs.Onward.{GoesOnFrom}
use Rattle.tau_book.specs.Working.{HasAllJobs, IsAtWork}
use Rattle.tau_journaling.specs.Going.{StandsBetween}
use Rattle.tau_journaling.proofs.going.go_on.Given as goal

abbrev pub invariant-loop : goal.invariant-loop
invariant-loop g l = record {
  jobs : HasAllJobs l.book l.hand;
  rest : IsAtRest (g.D.Disk.bytes l.disk) (g.D.Disk.images l.disk) (gate_of l.journal);
  grows : GoesOnFrom l.fn.book l.book;
  size : l.hand.size ≡ l.fn.hand.size;
  works : (seed : ℕ) (start : Run) → IsAtWork seed start l.fn.book l.fn.hand → IsAtWork seed start l.book l.hand;
  stands : StandsAt (g.D.Disk.bytes l.fn.disk) (gate_of l.fn.journal) l.fn.book.system.program l.fn.book.system.run → StandsAt (g.D.Disk.bytes l.disk) (gate_of l.journal) l.fn.book.system.program l.book.system.run;
  within : IfSome (g.D.Disk.bytes l.fn.disk) (λ file. length file ≤ most_bytes) → IfSome (g.D.Disk.bytes l.disk) (λ file. length file ≤ most_bytes);
  any_moment : StandsAt (g.D.Disk.bytes l.fn.disk) (gate_of l.fn.journal) l.fn.book.system.program l.fn.book.system.run
      → LeavesOnly g.D.Disk.moment g.D.Disk.left_since l.fn.disk l.disk (StandsBetween l.fn.book.system.program l.fn.book.system.run l.book.system.run);
  never_falls : g.D.Disk.faults l.fn.disk ≤ g.D.Disk.faults l.disk;
  steps : l.counter ≤ len l.book.system.run;
}
