-- What a call makes of a trimmed view, whatever whole one it was trimmed from.
use Rattle.std.specs.Prelude.{◌≡◌, ℕ}
use Rattle.tau_history.specs.Timeline.{Timeline, interval}
use Rattle.tau_points.specs.declared.point.Point.{Point}
use Rattle.tau_view.specs.Held.{Held}
use Rattle.tau_view.specs.Trim.{EdgeTest, RootTest, trim}

-- what the rules make of the whole view is trimmed to what is held then
abbrev pub IsAfter : EdgeTest → RootTest → (Held → Held) → Held → Held → Type 0
IsAfter de dr op old new = (x : Held) → old ≡ trim de dr x → new ≡ trim de dr (op x)

-- the same of two views
abbrev pub IsAfterBoth : EdgeTest → RootTest → (Held → Held → Held) → Held → Held → Held → Type 0
IsAfterBoth de dr op old other new = (x y : Held) → old ≡ trim de dr x → other ≡ trim de dr y → new ≡ trim de dr (op x y)

-- where a transactor stands by its history
abbrev pub point_of : ℕ → Timeline → Point
point_of t h = record { who = t; interval = interval h; incarnation = h.last }
