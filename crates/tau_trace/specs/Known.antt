-- Openings and runs whose steps name only what exists (docs/rules.md, "Numbers"; docs/limits.md).
use Rattle.std.specs.Prelude.{◌≡◌, ℕ, ◌<◌, ◌≤◌, Option, Some, All, length}
use Rattle.tau_value.specs.declared.limits.TheConstants.{NODE_LIMIT, BEHAVIOUR_LIMIT, START_LIMIT, POST_LIMIT, STEP_LIMIT}
use Rattle.tau_value.specs.declared.shared.Value.{Value}
use Rattle.tau_value.specs.Value.{val_of}
use Rattle.tau_value.specs.Sizes.{IsInBounds, NamesBelow}
use Rattle.tau_value.specs.Names.{AreNames}
use Rattle.tau_trace.specs.declared.opening.Opening.{Opening}
use Rattle.tau_trace.specs.declared.step.Step.{Step}
use Rattle.tau_trace.specs.declared.step.Step.TheVariants.{Take, Drop, Fall, Void, Get, Set, Skip, Send, New, Stabilize, Ask, Checkpoint, Hold, Rollback, Stay, Done, Trap, Fail, Lose, Echo, Heed, Repeat}
use Rattle.tau_trace.specs.Run.{Run, len, step_at}
use Rattle.tau_trace.specs.Numbering.{born, sent}

-- what holds of each opening
pub record IsSound (o : Opening) : Type 0 where
  pub names : AreNames o.names
  pub behaviours : AreNames o.behaviours
  pub few_names : length o.names ≤ START_LIMIT
  pub few_behaviours : length o.behaviours ≤ BEHAVIOUR_LIMIT
  pub few_targets : length o.targets ≤ POST_LIMIT
  pub some_nodes : 1 ≤ o.nodes
  pub few_nodes : o.nodes ≤ NODE_LIMIT
  pub a_home_each : length o.homes ≡ length o.names
  pub homes : All (λ n. n < o.nodes) o.homes
  pub targets : All (λ t. t < length o.names) o.targets
  pub some_version : 1 ≤ o.version
  pub few_versions : o.version ≤ 2

-- a value in bounds that names only the first so many transactors
pub record IsKnownValue (transactors : ℕ) (v : Value) : Type 0 where
  pub in_bounds : IsInBounds (val_of v)
  pub names : NamesBelow transactors (val_of v)

-- each number that the step names is that of something that exists, where there are so many transactors and messages
abbrev pub IsKnown : Opening → ℕ → ℕ → Step → Type 0
IsKnown o transactors messages (Take t m) = (t < transactors) × (m < messages)
IsKnown o transactors messages (Drop t m) = (t < transactors) × (m < messages)
IsKnown o transactors messages (Fall t m) = (t < transactors) × (m < messages)
IsKnown o transactors messages (Void t m) = (t < transactors) × (m < messages)
IsKnown o transactors messages (Get t) = t < transactors
IsKnown o transactors messages (Set t v) = (t < transactors) × IsKnownValue transactors v
IsKnown o transactors messages (Skip t) = t < transactors
IsKnown o transactors messages (Send t u v) = (t < transactors) × (u < transactors) × IsKnownValue transactors v
IsKnown o transactors messages (New t b n v) = (t < transactors) × (b < length o.behaviours) × (n < o.nodes) × IsKnownValue transactors v
IsKnown o transactors messages (Stabilize t) = t < transactors
IsKnown o transactors messages (Ask t a) = t < transactors
IsKnown o transactors messages (Checkpoint t) = t < transactors
IsKnown o transactors messages (Hold t) = t < transactors
IsKnown o transactors messages (Rollback t) = t < transactors
IsKnown o transactors messages (Stay t) = t < transactors
IsKnown o transactors messages (Done t) = t < transactors
IsKnown o transactors messages (Trap t c) = (t < transactors) × (1 ≤ c) × (c ≤ 8)
IsKnown o transactors messages (Fail t) = t < transactors
IsKnown o transactors messages (Lose m) = m < messages
IsKnown o transactors messages (Echo t m) = (t < transactors) × (m < messages)
IsKnown o transactors messages (Heed t m) = (t < transactors) × (m < messages)
IsKnown o transactors messages (Repeat m) = m < messages

-- an Echo, a Heed and a Repeat stand in version 2 alone
abbrev pub IsInVersion : ℕ → Step → Type 0
IsInVersion v (Echo t m) = v ≡ 2
IsInVersion v (Heed t m) = v ≡ 2
IsInVersion v (Repeat m) = v ≡ 2
IsInVersion v s = Unit {0}

-- what the step names exists at place k
abbrev pub IsKnownAt : Run → ℕ → Step → Type 0
IsKnownAt T k s = IsKnown T.opening (born T k) (sent T k) s

-- the step may stand at the end of the run
pub record MayFollow (T : Run) (s : Step) : Type 0 where
  pub known : IsKnownAt T (len T) s
  pub version : IsInVersion T.opening.version s
  pub few_steps : len T < STEP_LIMIT

-- what holds of each trace: each step names what exists before it and is of a kind of the version, and there are at most
-- 1,000,000 steps
pub record WellFormed (T : Run) : Type 0 where
  pub opening : IsSound T.opening
  pub known : (k : ℕ) (s : Step) → step_at T k ≡ Some s → IsKnownAt T k s
  pub versions : (k : ℕ) (s : Step) → step_at T k ≡ Some s → IsInVersion T.opening.version s
  pub few_steps : len T ≤ STEP_LIMIT
