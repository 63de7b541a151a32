-- The last version of each transactor.
use Rattle.std.specs.Prelude.{ℕ, ◌-◌, ◌^◌, List, min}
use Rattle.tau_versions.specs.Logs.Told.{Told}
use Rattle.tau_heard.specs.Bounds.{last_number}

-- its number; no log of a run has so many versions that the bound counts
abbrev pub latest : List Told → ℕ → ℕ
latest logs u = min (last_number logs u) (2 ^ 32 - 1)
