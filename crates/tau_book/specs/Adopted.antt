-- What a book answers that makes jobs for the open turns that have none (docs/rules.md, "Workers").
use Rattle.std.specs.Prelude.{◌≡◌, ℕ, not, List, ◌++◌, length, map, filter, All}
use Rattle.std.specs.List.{Contains, list_any}
use Rattle.tau_tree.specs.declared.programs.Program.{Program}
use Rattle.tau_trace.specs.Run.{Run}
use Rattle.tau_eval.specs.Turn.{TurnSoFar}
use Rattle.tau_rules.specs.Answers.{IsOpenJob}
use Rattle.tau_queue.specs.OpenTurns.{IsOpenFrom, AreOpenTurns}
use Rattle.tau_book.specs.Hands.{is_of}
use Rattle.tau_book.specs.Books.{Booked, AreOfDifferentTurns}
use Rattle.tau_book.specs.Offers.{open_jobs}

-- a job of the turn from a place is among the jobs
pub record HasJobFrom (jobs : List TurnSoFar) (place : ℕ) : Type 0 where
  pub job : TurnSoFar
  pub among : Contains jobs job
  pub from : job.place ≡ place

-- of these turns, those of which no job is among the jobs
abbrev pub without_job : List TurnSoFar → List ℕ → List ℕ
without_job jobs turns = filter (λ p. not (list_any (is_of p) jobs)) turns

-- the jobs that are made are the records of those of these turns that have no job, in the turns' order
pub record AreMissing (P : Program) (T : Run) (jobs : List TurnSoFar) (turns : List ℕ) (made : List TurnSoFar) : Type 0 where
  pub places : map (λ j. j.place) made ≡ without_job jobs turns
  pub records : All (λ j. IsOpenJob P T j) made

-- the returned jobs of open turns stay, behind them are so many that were made, and each open turn has exactly one
pub record IsAdopted (old new : Booked) (count : ℕ) : Type 0 where
  pub turns : List ℕ
  pub turns_are : AreOpenTurns old.system.run turns
  pub made : List TurnSoFar
  pub made_are : AreMissing old.system.program old.system.run old.store turns made
  pub count_is : count ≡ length made
  pub book_is : new ≡ record old { store = open_jobs turns old.store ++ made }
  pub each : (place : ℕ) → IsOpenFrom old.system.run place → HasJobFrom new.store place
  pub one_each : AreOfDifferentTurns new.store
