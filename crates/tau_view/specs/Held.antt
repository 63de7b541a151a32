-- What a view holds, by asking (docs/rules.md, "Views").
use Rattle.std.specs.Prelude.{◌≡◌, ℕ, ◌+◌, Bool, true, false, ◌&&◌, ◌||◌, ◌==◌, not, IsTrue, Option, Some, None, nat_lt, slice_get, option_and_then, if◌then◌else◌}
use Rattle.tau_history.specs.Timeline.{Timeline, numbers, interval}
use Rattle.tau_history.specs.Order.{Precedes, AreComparable}
use Rattle.tau_history.specs.Fates.{fate}
use Rattle.tau_history.specs.declared.fate.Fate.{Fate}
use Rattle.tau_history.specs.declared.fate.Fate.TheVariants.{Ahead, Open, Stable, Closed, Fallen}
use Rattle.tau_points.specs.declared.point.Point.{Point}

-- at most one history of each transactor
abbrev pub Histories : Type 0
Histories = ℕ → Option Timeline

-- a set of points
abbrev pub Points : Type 0
Points = Point → Bool

-- a set of edges, each from the first point to the second
abbrev pub Edges : Type 0
Edges = Point → Point → Bool

-- histories, edges and roots; histories and edges together are the view's facts
pub record Held : Type 0 where
  pub history : Histories
  pub edge : Edges
  pub root : Points

-- the two are one point
abbrev pub same_point : Point → Point → Bool
same_point p q = (p.who == q.who) && ((p.interval == q.interval) && (p.incarnation == q.incarnation))

-- the set of one point
abbrev pub only : Point → Points
only p q = same_point q p

-- the fate of a point by the history of its transactor; Ahead where there is none
abbrev pub fate_by : Option Timeline → Point → Fate
fate_by None q = Ahead
fate_by (Some h) q = fate h q.interval q.incarnation

abbrev pub fate_in : Histories → Point → Fate
fate_in hs q = fate_by (hs q.who) q

-- Stable or Closed
abbrev pub is_firm : Fate → Bool
is_firm Ahead = false
is_firm Open = false
is_firm Stable = true
is_firm Closed = true
is_firm Fallen = false

abbrev pub is_closed : Fate → Bool
is_closed Ahead = false
is_closed Open = false
is_closed Stable = false
is_closed Closed = true
is_closed Fallen = false

abbrev pub is_fallen : Fate → Bool
is_fallen Ahead = false
is_fallen Open = false
is_fallen Stable = false
is_fallen Closed = false
is_fallen Fallen = true

-- each history of the first precedes the history of the same transactor in the second, which has one
pub record PrecedesIn (ks : Histories) (u : ℕ) (h : Timeline) : Type 0 where
  pub later : Timeline
  pub is : ks u ≡ Some later
  pub precedes : Precedes h later

abbrev pub AllPrecede : Histories → Histories → Type 0
AllPrecede hs ks = (u : ℕ) (h : Timeline) → hs u ≡ Some h → PrecedesIn ks u h

-- the two histories of each transactor that has both are comparable
abbrev pub AllComparable : Histories → Histories → Type 0
AllComparable hs ks = (u : ℕ) (h k : Timeline) → hs u ≡ Some h → ks u ≡ Some k → AreComparable h k
