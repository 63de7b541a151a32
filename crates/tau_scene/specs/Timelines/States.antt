-- The states of a transactor (docs/formats.md, "Pictures").
use Rattle.std.specs.Prelude.{◌≡◌, ◌↔◌, ℕ, suc, ◌<◌, ◌≤◌, Option, Some, None, IsTrue, List, Contains, length, slice_get}
use Rattle.std.specs.List.{AllPairs}
use Rattle.std.specs.declared.alloc.Global.{Global}
use Rattle.std.specs.declared.vec.Vec.{Vec}
use Rattle.tau_trace.specs.Run.{Run, len, starts, ActsAt}
use Rattle.tau_trace.specs.Places.{IsLeastFrom}
use Rattle.tau_trace.specs.Numbering.{IsNew}
use Rattle.tau_trace.specs.Histories.{EndsAt}
use Rattle.tau_trace.specs.Points.{point_at, Leaves, Stabilizes}
use Rattle.tau_layout.specs.declared.lanes.Lane.{Lane}
use Rattle.tau_scene.specs.declared.timelines.states.State.{State}
use Rattle.tau_svg.specs.declared.shapes.window.Window.{Window}
use Rattle.tau_layout.specs.Plans.{Plan}

-- t comes to a point at place b: a start at 0, a created one behind its New, and each behind a step by which it left another
-- point, unless that step ended it or stands behind its end
pub data Begins (T : Run) (t : ℕ) : ℕ → Type 0 where
  opens : t < starts T → Begins T t 0
  created : {j by : ℕ} → IsNew T j by t → Begins T t (suc j)
  leaves : {j : ℕ} → Leaves T t j → ((e : ℕ) → e ≤ j → ¬ EndsAt T t e) → Begins T t (suc j)

-- where the state of a point ends, or else the end of the trace
abbrev pub until : ℕ → Option ℕ → ℕ
until n (Some e) = e
until n None = n

-- a state: a point, where its transactor comes to it, the step by which it leaves it, and its first Stabilize there
pub record IsState (T : Run) (s : State) : Type 0 where
  pub begins : Begins T s.point.who s.begin
  pub point_is : s.point ≡ point_at T s.point.who s.begin
  pub ends : IsLeastFrom s.begin (Leaves T s.point.who) (len T) s.end
  pub stable : IsLeastFrom s.begin (Stabilizes T s.point.who) (until (len T) s.end) s.stable
  pub made : IsTrue s.made ↔ ((k : ℕ) × ActsAt T s.point.who k × (s.point ≡ point_at T s.point.who k))

-- a state is seen in a window: it begins at its end at most, and doesn't end before its begin
abbrev pub IsSeen : Window → State → Type 0
IsSeen v s = (s.begin ≤ v.to) × ((e : ℕ) → s.end ≡ Some e → v.from ≤ e)

-- the states of t that are seen, by time
pub record AreStates (T : Run) (v : Window) (t : ℕ) (states : List State) : Type 0 where
  pub ascending : AllPairs (λ r s. r.begin < s.begin) states
  pub only : (s : State) → Contains states s → (s.point.who ≡ t) × IsState T s × IsSeen v s
  pub all : (s : State) → s.point.who ≡ t → IsState T s → IsSeen v s → Contains states s

-- for each lane the states of its transactor that are seen
pub record AreLaneStates (T : Run) (plan : Plan) (states : List (Vec State Global)) : Type 0 where
  pub count_is : length states ≡ length plan.lanes
  pub each : (rank : ℕ) (l : Lane) (v : Vec State Global) → slice_get plan.lanes rank ≡ Some l → slice_get states rank ≡ Some v → AreStates T plan.window l.who v.items
