use Rattle.std.proofs.Common.{◌≡◌, ◌≤◌, ℕ}
use Rattle.tau_trace.specs.Run.{Run, len}
use Rattle.tau_book.specs.Onward.{GoesOnFrom}
use Rattle.tau_book.specs.Working.{HasAllJobs, IsAtWork}
use Rattle.tau_book.proofs.stepping.make_steps.Given as goal

abbrev pub invariant-loop : goal.invariant-loop
invariant-loop l = record {
  all : HasAllJobs l.book l.hand;
  works : (seed : ℕ) (start : Run) → IsAtWork seed start l.fn.book l.fn.hand → IsAtWork seed start l.book l.hand;
  grows : GoesOnFrom l.fn.book l.book;
  size : l.hand.size ≡ l.fn.hand.size;
  steps : l.counter ≤ len l.book.system.run;
}
