-- What a visitor is shown of a storm.
use Rattle.std.specs.Prelude.{◌++◌, ◌∷◌, ◌≤◌, ℕ, List, []}
use Rattle.tau_value.specs.declared.limits.TheConstants.{STEP_LIMIT}
use Rattle.tau_tree.specs.declared.programs.Program.{Program}
use Rattle.tau_book.specs.declared.limits.TheConstants.{JOB_LIMIT}
use Rattle.tau_faults.specs.declared.setting.Setting.{Setting}
use Rattle.tau_faults.specs.Ends.{End, AreEnds}

-- the most faults of one kind
abbrev pub most_faults : ℕ
most_faults = 16

-- one job or more, as many as a worker may hold; steps as many as a trace may have; and at most so many faults of each kind
pub record IsSetting (S : Setting) : Type 0 where
  pub some : 1 ≤ S.jobs
  pub few : S.jobs ≤ JOB_LIMIT
  pub limit : S.steps ≤ STEP_LIMIT
  pub every : 1 ≤ S.every
  pub fails : S.faults.fails ≤ most_faults
  pub losses : S.faults.losses ≤ most_faults
  pub repeats : S.faults.repeats ≤ most_faults

-- the visitor was shown these ends, one after another
pub data Visited {V : Type 0} (visits : V → End → V → Type 0) : V → List End → V → Type 0 where
  none : {v : V} → Visited visits v [] v
  more : {v w x : V} {e : End} {ends : List End} → Visited visits v ends w → visits w e x → Visited visits v (ends ++ e ∷ []) x

-- the visitor was shown all ends of the storm of O with a seed, in their order
pub record HasSeenAll {V : Type 0} (visits : V → End → V → Type 0) (S : Setting) (seed : ℕ) (O : Program) (old new : V) : Type 0 where
  pub ends : List End
  pub are : AreEnds S seed O ends
  pub visited : Visited visits old ends new
