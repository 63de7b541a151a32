-- What one hand over a book keeps while a job of it is evaluated.
use Rattle.std.specs.Prelude.{◌≡◌, ◌≢◌, ◌⊎◌, ◌%◌, ◌≤◌, ℕ, List, ◌++◌, Some, length, map, slice_get}
use Rattle.std.specs.List.{AllPairs, Contains}
use Rattle.rand_pcg.specs.Lcg.{Lcg}
use Rattle.rand_pcg.specs.Pcg.{pcg32}
use Rattle.tau_tree.specs.declared.programs.Program.{Program}
use Rattle.tau_trace.specs.Run.{Run}
use Rattle.tau_eval.specs.Turn as jobs
use Rattle.tau_rules.specs.Answers.{IsOpenJob}
use Rattle.tau_queue.specs.OpenTurns.{IsOpenFrom}
use Rattle.tau_book.specs.Hands.{Held}
use Rattle.tau_book.specs.Books.{Booked, GoesOn}
use Rattle.tau_book.specs.Adopted.{HasJobFrom}
use Rattle.tau_book.specs.SerialRun.{Choosable, turn}
use Rattle.tau_book.specs.Alone.{AreOwnOptions, ComesAfter}

-- the jobs are the records of the open turns, one of each
pub record AreOpenJobs (P : Program) (T : Run) (js : List jobs.TurnSoFar) : Type 0 where
  pub one_each : AllPairs (λ a b. a.place ≢ b.place) js
  pub records : (job : jobs.TurnSoFar) → Contains js job → IsOpenJob P T job
  pub each : (place : ℕ) → IsOpenFrom T place → HasJobFrom js place

-- the jobs are the records of all open turns but that of one job
pub record AreOtherJobs (P : Program) (T : Run) (job : jobs.TurnSoFar) (js : List jobs.TurnSoFar) : Type 0 where
  pub one_each : AllPairs (λ a b. a.place ≢ b.place) js
  pub records : (j : jobs.TurnSoFar) → Contains js j → IsOpenJob P T j × (j.place ≢ job.place)
  pub each : (place : ℕ) → IsOpenFrom T place → (place ≡ job.place) ⊎ HasJobFrom js place

-- the job that the hand has handed out is the record of an open turn, and the hand and the returned jobs together are those of the others
pub record HasHandedOut (b : Booked) (h : Held) (job : jobs.TurnSoFar) : Type 0 where
  pub some : 1 ≤ h.size
  pub goes_on : GoesOn b
  pub is_open : IsOpenJob b.system.program b.system.run job
  pub others : AreOtherJobs b.system.program b.system.run job (h.jobs ++ b.store)

-- the word before the hand's generator has chosen the turn of the job, behind the steps of `start`
pub record HasChosen (seed : ℕ) (start : Run) (b : Booked) (h : Held) (job : jobs.TurnSoFar) : Type 0 where
  pub waiting : List ℕ
  pub before : Lcg
  pub comes_after : ComesAfter b.system.program h.size seed start b.system.run waiting before
  pub after : h.generator ≡ (pcg32 before).1
  pub options : List Choosable
  pub options_are : AreOwnOptions b.system.run h.size waiting (map (λ j. j.place) b.store) options
  pub chosen : slice_get options ((pcg32 before).0 % length options) ≡ Some (turn job.place)
