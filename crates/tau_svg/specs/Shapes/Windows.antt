-- The places that are drawn (docs/formats.md, "Pictures").
use Rattle.std.specs.Prelude.{ℕ, ◌+◌, ◌-◌, ◌<◌, ◌≤◌, min, max}
use Rattle.tau_svg.specs.declared.shapes.window.Window.{Window}

-- the window of a run of n steps, for the places that were asked for: at most 2,000 steps
abbrev pub window_of : ℕ → ℕ → ℕ → Window
window_of n from to = let first = min from n in record { from = first; to = min (max to first) (min (first + 2000) n) }

-- place k is drawn
abbrev pub IsDrawn : Window → ℕ → Type 0
IsDrawn v k = (v.from ≤ k) × (k < v.to)

-- how many places are drawn
abbrev pub count : Window → ℕ
count v = v.to - v.from

-- how many drawn places stand before place k
abbrev pub row_of : Window → ℕ → ℕ
row_of v k = min (max k v.from) v.to - v.from
