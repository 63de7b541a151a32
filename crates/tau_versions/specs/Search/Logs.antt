-- The logs of all transactors, and the versions that were heard of.
use Rattle.std.specs.Prelude.{◌≡◌, ℕ, suc, ◌≤◌, List, Some, length, slice_get}
use Rattle.tau_trace.specs.Run.{Run}
use Rattle.tau_trace.specs.Numbering.{born}
use Rattle.tau_trace.specs.Known.{WellFormed}
use Rattle.tau_past.specs.Heard.{Bound}
use Rattle.tau_past.specs.Safety.{KeepsRules}
use Rattle.tau_versions.specs.declared.logs.version.Version.{Version}
use Rattle.tau_versions.specs.Logs.Versions.{IsLatest}
use Rattle.tau_versions.specs.Logs.Told.{Told, TellsHistories}
use Rattle.tau_versions.specs.Logs.Takes.{TellsTakes}

-- the log of u tells its histories, and what its points have taken, up to place n; its first version is that of the opening, and
-- there is at most one more for each step
pub record TellsLog (T : Run) (u n : ℕ) (log : Told) : Type 0 where
  pub opens : (v : Version) × IsLatest log.versions 0 0 v
  pub few : length log.versions ≤ suc n
  pub histories : TellsHistories T u n log
  pub takes : TellsTakes T u n log

-- the logs are right up to place n of the run: there is such a log of each transactor that exists there
pub record AreLogs (T : Run) (n : ℕ) (logs : List Told) : Type 0 where
  pub count : length logs ≡ born T n
  pub each : (u : ℕ) (log : Told) → slice_get logs u ≡ Some log → TellsLog T u n log

-- the number is that of the version of u that is latest at the bound of H
pub record TellsBound (T : Run) (H : ℕ → Type 0) (n u : ℕ) (log : Told) (number : ℕ) : Type 0 where
  pub place : ℕ
  pub within : place ≤ n
  pub bound : Bound T H u place
  pub version : Version
  pub latest : IsLatest log.versions place number version

-- for each transactor the number is that of the version that is latest at the bound of H
abbrev pub TellBounds : Run → (ℕ → Type 0) → ℕ → List Told → (ℕ → ℕ) → Type 0
TellBounds T H n logs numbers = (u : ℕ) (log : Told) → slice_get logs u ≡ Some log → TellsBound T H n u log (numbers u)

-- what a decision at place n by the places of H rests on: the run keeps the rules, and logs and numbers are right
pub record IsTold (T : Run) (H : ℕ → Type 0) (n : ℕ) (logs : List Told) (numbers : ℕ → ℕ) : Type 0 where
  pub well_formed : WellFormed T
  pub rules : KeepsRules T
  pub logs_are : AreLogs T n logs
  pub numbers_tell : TellBounds T H n logs numbers
