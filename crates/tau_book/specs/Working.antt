-- What one hand over a book keeps of a run (docs/rules.md, "Choice of a worker").
use Rattle.std.specs.Prelude.{◌≢◌, ◌≤◌, ℕ, List, ◌++◌, map}
use Rattle.std.specs.List.{AllPairs, Contains}
use Rattle.tau_tree.specs.declared.programs.Program.{Program}
use Rattle.tau_trace.specs.Run.{Run}
use Rattle.tau_eval.specs.Turn as jobs
use Rattle.tau_rules.specs.Answers.{IsOpenJob}
pub use Rattle.tau_queue.specs.OpenTurns.{IsOpenFrom}
use Rattle.tau_book.specs.Hands.{Held}
use Rattle.tau_book.specs.Books.{Booked}
use Rattle.tau_book.specs.Adopted.{HasJobFrom}
use Rattle.tau_book.specs.Alone.{ComesAfter}

-- the jobs are of different turns, those of open turns are their records, and each open turn has one
pub record AreJobs (P : Program) (T : Run) (js : List jobs.TurnSoFar) : Type 0 where
  pub one_each : AllPairs (λ a b. a.place ≢ b.place) js
  pub records : (job : jobs.TurnSoFar) → Contains js job → IsOpenFrom T job.place → IsOpenJob P T job
  pub each : (place : ℕ) → IsOpenFrom T place → HasJobFrom js place

-- the hand and the returned jobs together are the records of the open turns: one of each; and the hand has room for a job
pub record HasAllJobs (b : Booked) (h : Held) : Type 0 where
  pub some : 1 ≤ h.size
  pub jobs_are : AreJobs b.system.program b.system.run (h.jobs ++ b.store)

-- the hand makes the book's run behind the steps of `start`, and the returned jobs are those of the turns that wait for it
abbrev pub IsAtWork : ℕ → Run → Booked → Held → Type 0
IsAtWork seed start b h = ComesAfter b.system.program h.size seed start b.system.run (map (λ j. j.place) b.store) h.generator
