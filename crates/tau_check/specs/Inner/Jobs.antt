-- The jobs that are kept for the open turns of a run, each at the place of its transactor.
use Rattle.std.specs.Prelude.{◌≡◌, ◌≢◌, ℕ, List, Option, Some, None, slice_get}
use Rattle.tau_value.specs.declared.shared.Value.{Value}
use Rattle.tau_value.specs.Value.{val_of}
use Rattle.tau_tree.specs.declared.programs.Program.{Program}
use Rattle.tau_trace.specs.Run.{Run, len}
use Rattle.tau_trace.specs.Turns.{Turn}
use Rattle.tau_eval.specs.Turn as jobs
use Rattle.tau_rules.specs.declared.answers.Delivered.{Delivered}
use Rattle.tau_rules.specs.declared.answers.Delivered.TheVariants.{Began, Dropped, Fell, Voided, Echoed, Heeded}
use Rattle.tau_rules.specs.Answers.{IsOpenJob}

-- a job is kept for a transactor
abbrev pub IsKeptFor : ℕ → List (Option jobs.TurnSoFar) → Type 0
IsKeptFor who js = (job : jobs.TurnSoFar) × (slice_get js who ≡ Some (Some job))

-- the job of t's open turn is kept
pub record HasJobOf (P : Program) (T : Run) (js : List (Option jobs.TurnSoFar)) (t : ℕ) : Type 0 where
  pub job : jobs.TurnSoFar
  pub kept : slice_get js t ≡ Some (Some job)
  pub who : job.who ≡ t
  pub is_open : IsOpenJob P T job

-- the job of each open turn is kept
abbrev pub HasJobs : Program → Run → List (Option jobs.TurnSoFar) → Type 0
HasJobs P T js = (t place m : ℕ) → Turn T t (len T) place m → HasJobOf P T js t

-- that of each open turn but those of one transactor
abbrev pub HasOtherJobs : Program → Run → ℕ → List (Option jobs.TurnSoFar) → Type 0
HasOtherJobs P T who js = (t place m : ℕ) → t ≢ who → Turn T t (len T) place m → HasJobOf P T js t

-- what was kept for the others is kept
abbrev pub KeepsOthers : ℕ → List (Option jobs.TurnSoFar) → List (Option jobs.TurnSoFar) → Type 0
KeepsOthers who old new = (t : ℕ) (o : Option jobs.TurnSoFar) → t ≢ who → slice_get old t ≡ Some o → slice_get new t ≡ Some o

-- one job more is kept
pub record IsKeptWith (old new : List (Option jobs.TurnSoFar)) (job : jobs.TurnSoFar) : Type 0 where
  pub kept : slice_get new job.who ≡ Some (Some job)
  pub others : KeepsOthers job.who old new

-- the job of the turn that a receipt opened is kept
abbrev pub IsKeptBegun : List (Option jobs.TurnSoFar) → List (Option jobs.TurnSoFar) → Delivered → Type 0
IsKeptBegun old new (Began job) = IsKeptWith old new job
IsKeptBegun old new Dropped = new ≡ old
IsKeptBegun old new Fell = new ≡ old
IsKeptBegun old new Voided = new ≡ old
IsKeptBegun old new Echoed = new ≡ old
IsKeptBegun old new Heeded = new ≡ old

-- the job after the step of its turn is kept, if the turn goes on
abbrev pub IsKeptAfter : List (Option jobs.TurnSoFar) → List (Option jobs.TurnSoFar) → jobs.TurnSoFar → Option Value → Type 0
IsKeptAfter old new pending (Some r) = IsKeptWith old new (jobs.with_reply pending (val_of r))
IsKeptAfter old new pending None = new ≡ old
