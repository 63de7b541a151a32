-- A run: an opening and the list of steps, whose places count from 0.
use Rattle.std.specs.Prelude.{◌≡◌, ℕ, ◌<◌, Bool, List, [], ◌∷◌, ◌++◌, length, Option, Some, slice_get, option_and_then, nat_lt, IsTrue}
use Rattle.tau_trace.specs.declared.opening.Opening.{Opening}
use Rattle.tau_trace.specs.declared.step.Step.{Step}
use Rattle.tau_trace.specs.Steps.{actor}

pub record Run : Type 0 where
  pub opening : Opening
  pub steps : List Step

-- how many steps the run has
abbrev pub len : Run → ℕ
len T = length T.steps

-- the step at place k
abbrev pub step_at : Run → ℕ → Option Step
step_at T k = slice_get T.steps k

-- how many start transactors the run has
abbrev pub starts : Run → ℕ
starts T = length T.opening.names

-- the run with one more step at its end
abbrev pub appended : Run → Step → Run
appended T s = record { opening = T.opening; steps = T.steps ++ s ∷ [] }

-- the same steps in this version
abbrev pub versioned : ℕ → Run → Run
versioned v T = record { opening = record T.opening { version = v }; steps = T.steps }

abbrev pub second : Run → Run
second T = versioned 2 T

-- transactor t makes the step at place k
abbrev pub ActsAt : Run → ℕ → ℕ → Type 0
ActsAt T t k = option_and_then actor (step_at T k) ≡ Some t

-- transactor t makes the step at place k, and the step passes the test
pub record Does (test : Step → Bool) (T : Run) (t k : ℕ) : Type 0 where
  pub step : Step
  pub stands : step_at T k ≡ Some step
  pub by : actor step ≡ Some t
  pub passes : IsTrue (test step)

-- both runs have this opening and the same steps below place k
pub record Agree (T U : Run) (k : ℕ) : Type 0 where
  pub opening : T.opening ≡ U.opening
  pub steps : (j : ℕ) → j < k → step_at T j ≡ step_at U j
