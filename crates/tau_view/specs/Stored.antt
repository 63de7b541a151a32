-- What contracts see of a view of this crate, and what it holds.
use Rattle.std.specs.Prelude.{◌≡◌, ◌≤◌, ℕ, ◌+◌, Bool, true, false, ◌||◌, ◌&&◌, ◌==◌, List, [], ◌∷◌, Option, Some, None, if◌then◌else◌}
use Rattle.tau_history.specs.Timeline.{Timeline}
use Rattle.tau_points.specs.declared.point.Point.{Point}
use Rattle.tau_view.specs.Held.{Held, same_point}

-- histories by ascending transactor, edges and roots in ascending order
pub record Stored : Type 0 where
  pub histories : List (ℕ × Timeline)
  pub edges : List (Point × Point)
  pub roots : List Point

-- the transactors ascend, from this number on
abbrev pub AscendsFrom : ℕ → List (ℕ × Timeline) → Type 0
AscendsFrom n [] = Unit {0}
AscendsFrom n (e ∷ es) = (n ≤ e.0) × AscendsFrom (e.0 + 1) es

-- the history of a transactor
abbrev pub history_in : List (ℕ × Timeline) → ℕ → Option Timeline
history_in [] u = None
history_in (e ∷ es) u = if u == e.0 then Some e.1 else history_in es u

-- the list has the point
abbrev pub point_in : List Point → Point → Bool
point_in [] q = false
point_in (p ∷ ps) q = same_point q p || point_in ps q

-- the list has the pair
abbrev pub pair_in : List (Point × Point) → Point → Point → Bool
pair_in [] p q = false
pair_in (e ∷ es) p q = (same_point p e.0 && same_point q e.1) || pair_in es p q

abbrev pub held : Stored → Held
held s = record { history = history_in s.histories; edge = pair_in s.edges; root = point_in s.roots }
