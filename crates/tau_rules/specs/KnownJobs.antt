-- Jobs that were the record of a turn (docs/rules.md, "Seats").
use Rattle.std.specs.Prelude.{◌≡◌, ◌≤◌, ℕ, suc, List, ◌++◌, length, take}
use Rattle.tau_value.specs.Val.{Val}
use Rattle.tau_tree.specs.declared.programs.Program.{Program}
use Rattle.tau_trace.specs.declared.step.Step.{Step}
use Rattle.tau_trace.specs.Run.{Run, len}
use Rattle.tau_trace.specs.Known.{WellFormed}
use Rattle.tau_trace.specs.Turns.{Turn}
use Rattle.tau_states.specs.Opening.{opening_states}
use Rattle.tau_eval.specs.Turn as jobs
use Rattle.tau_legal.specs.Turns.{RepliesOf}
use Rattle.tau_rules.specs.Answers.{IsOpenJob}

-- the run of the first k steps
abbrev pub front_of : Run → ℕ → Run
front_of T k = record { opening = T.opening; steps = take k T.steps }

-- at some moment of the run the job was the record of a turn that was open then
pub record WasOpenJob (P : Program) (T : Run) (job : jobs.TurnSoFar) : Type 0 where
  pub moment : ℕ
  pub within : moment ≤ len T
  pub was_open : IsOpenJob P (front_of T moment) job

-- the turn from the job's place is open, and has so many replies as the job
pub record IsAt (P : Program) (T : Run) (job : jobs.TurnSoFar) : Type 0 where
  pub message : ℕ
  pub turn : Turn T job.who (len T) job.place message
  pub replies : List Val
  pub replies_are : RepliesOf T (opening_states P.starts) job.who (suc job.place) (len T) replies
  pub as_many : length replies ≡ length job.replies

-- a job that was the record of a turn is it still, where the turn is open and has so many replies
abbrev pub KnownJobsAreOpen : Type 0
KnownJobsAreOpen = (P : Program) (T : Run) (job : jobs.TurnSoFar) → WellFormed T → WasOpenJob P T job → IsAt P T job → IsOpenJob P T job

-- what was the record of a turn was so in each longer run
abbrev pub KnownJobsStayKnown : Type 0
KnownJobsStayKnown = (P : Program) (T : Run) (more : List Step) (job : jobs.TurnSoFar) → WasOpenJob P T job → WasOpenJob P (record { opening = T.opening; steps = T.steps ++ more }) job

-- and what is the record of a turn was so
abbrev pub OpenJobsAreKnown : Type 0
OpenJobsAreKnown = (P : Program) (T : Run) (job : jobs.TurnSoFar) → IsOpenJob P T job → WasOpenJob P T job
