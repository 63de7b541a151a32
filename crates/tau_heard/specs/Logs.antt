-- How logs that are right up to a place go on.
use Rattle.std.specs.Prelude.{◌≡◌, ℕ, ◌≤◌, List, Some, slice_get}
use Rattle.tau_versions.specs.declared.logs.version.Version.{Version}
use Rattle.tau_versions.specs.Logs.Versions.{IsLatest}
use Rattle.tau_versions.specs.Logs.Told.{Told}

-- what was the latest version at a place up to n still is
abbrev pub KeepsLatest : ℕ → Told → Told → Type 0
KeepsLatest n old new = (a i : ℕ) (v : Version) → a ≤ n → IsLatest old.versions a i v → IsLatest new.versions a i v

-- of each old log this holds
pub record LogsGoOn (n : ℕ) (old new : List Told) : Type 0 where
  pub each : (u : ℕ) (log : Told) → slice_get old u ≡ Some log → (next : Told) × (slice_get new u ≡ Some next) × KeepsLatest n log next
