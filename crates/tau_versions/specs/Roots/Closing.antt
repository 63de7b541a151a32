-- Points that are closed by what was heard.
use Rattle.std.specs.Prelude.{◌≡◌, ◌⊎◌, ℕ, ◌+◌, ◌*◌, ◌≤◌, Bool, true, false, List, length, filter}
use Rattle.std.specs.List.{count_by}
use Rattle.tau_history.specs.declared.fate.Fate.{Fate}
use Rattle.tau_history.specs.declared.fate.Fate.TheVariants.{Closed}
use Rattle.tau_points.specs.declared.point.Point.{Point}
use Rattle.tau_versions.specs.Logs.Told.{Told}
use Rattle.tau_versions.specs.Search.Searching.{fate_of}

-- the fate isn't Closed
abbrev pub not_closed : Fate → Bool
not_closed Closed = false
not_closed f = true

-- the point isn't closed by the version heard of its transactor
abbrev pub is_unclosed : List Told → (ℕ → ℕ) → Point → Bool
is_unclosed logs numbers q = not_closed (fate_of logs numbers q)

-- what a point keeps of what it has taken: all, or all that isn't closed; of closed points at most as many as of others, and eight
pub record IsKept (unclosed : Point → Bool) (taken kept : List Point) : Type 0 where
  pub cases : (kept ≡ taken) ⊎ (kept ≡ filter unclosed taken)
  pub few_closed : length kept ≤ 2 * count_by unclosed taken + 8
