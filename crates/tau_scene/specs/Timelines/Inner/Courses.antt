-- The states of a transactor, as a pass over a trace finds them.
use Rattle.std.specs.Prelude.{◌≡◌, ◌⊎◌, ◌↔◌, ℕ, suc, ◌+◌, ◌^◌, ◌<◌, ◌≤◌, Bool, true, false, ◌||◌, ◌&&◌, IsTrue, List, ◌∷◌, [], ◌++◌, Option, Some, None, if◌then◌else◌, nat_le, ◌==◌, Contains, length, slice_get}
use Rattle.std.specs.List.{AllPairs}
use Rattle.std.specs.declared.alloc.Global.{Global}
use Rattle.std.specs.declared.vec.Vec.{Vec}
use Rattle.tau_points.specs.declared.point.Point.{Point}
use Rattle.tau_trace.specs.declared.step.Step.{Step}
use Rattle.tau_trace.specs.declared.step.Step.TheVariants.{Stabilize}
use Rattle.tau_trace.specs.Steps.{is_checkpoint}
use Rattle.tau_trace.specs.Run.{Run, ActsAt}
use Rattle.tau_trace.specs.Places.{IsLeastFrom}
use Rattle.tau_trace.specs.Numbering.{born}
use Rattle.tau_trace.specs.Histories.{Ended}
use Rattle.tau_trace.specs.Points.{point_at, Leaves, Stabilizes}
use Rattle.tau_past.specs.declared.made.Made.{Made}
use Rattle.tau_layout.specs.declared.lanes.Lane.{Lane}
use Rattle.tau_layout.specs.Plans.{Plan}
use Rattle.tau_svg.specs.declared.shapes.window.Window.{Window}
use Rattle.tau_scene.specs.declared.timelines.states.State.{State}
use Rattle.tau_scene.specs.declared.timelines.states.Course.{Course}
use Rattle.tau_scene.specs.Timelines.States.{Begins, IsState, IsSeen}

-- a state that begins
abbrev pub begun : Point → ℕ → State
begun p b = record { point = p; begin = b; end = None; stable = None; made = false }

-- the place of the first Stabilize, with one more step at place k
abbrev pub stable_with : Option ℕ → Step → ℕ → Option ℕ
stable_with (Some j) s k = Some j
stable_with None (Stabilize t) k = Some k
stable_with None s k = None

-- a state with one more step at place k, made at it
abbrev pub after : State → Step → ℕ → State
after st s k = record { point = st.point; begin = st.begin; end = st.end; stable = stable_with st.stable s k; made = true }

-- a state that ends by the step at place k
abbrev pub ended : State → ℕ → State
ended st k = record { point = st.point; begin = st.begin; end = Some k; stable = st.stable; made = st.made }

-- the state behind one of point p that a step at place k ends; None where the step ends the transactor
abbrev pub next : Point → Bool → ℕ → Option State
next p falls k = if falls then (if p.interval == 0 then None else Some (begun (record { who = p.who; interval = p.interval; incarnation = p.incarnation + 1 }) (k + 1))) else Some (begun (record { who = p.who; interval = p.interval + 1; incarnation = 0 }) (k + 1))

-- the truth that a state is seen
abbrev pub ends_in : Window → Option ℕ → Bool
ends_in v None = true
ends_in v (Some e) = nat_le v.from e

abbrev pub is_seen : Window → State → Bool
is_seen v s = nat_le s.begin v.to && ends_in v s.end

-- a state behind others, if it is seen
abbrev pub with_seen : Window → State → List State → List State
with_seen v s list = if is_seen v s then list ++ s ∷ [] else list

abbrev pub with_last : Window → Option State → List State → List State
with_last v None list = list
with_last v (Some s) list = with_seen v s list

-- a step of a transactor's own leads it from its point
abbrev pub leaves : Step → Made → Bool
leaves s m = is_checkpoint s || m.falls

-- the states that have ended, and the last, behind a step of the transactor's own
abbrev pub noted_done : Window → Option State → Step → Made → ℕ → List State → List State
noted_done v None s m k list = list
noted_done v (Some st) s m k list = if leaves s m then with_seen v (ended (after st s k) k) list else list

abbrev pub noted_last : Option State → Step → Made → ℕ → Option State
noted_last None s m k = None
noted_last (Some st) s m k = if leaves s m then next m.point m.falls k else Some (after st s k)

-- a course behind a step of the transactor's own
pub record Notes (v : Window) (s : Step) (m : Made) (k : ℕ) (old new : Course) : Type 0 where
  pub done_is : new.done.items ≡ noted_done v old.last s m k old.done.items
  pub last_is : new.last ≡ noted_last old.last s m k

-- the states of t that ended before place k and are seen, by time
pub record ArePast (T : Run) (v : Window) (t k : ℕ) (list : List State) : Type 0 where
  pub ascending : AllPairs (λ r s. r.begin < s.begin) list
  pub only : (s : State) → Contains list s → (s.point.who ≡ t) × IsState T s × IsSeen v s × ((e : ℕ) × (s.end ≡ Some e) × (e < k))
  pub all : (s : State) (e : ℕ) → s.point.who ≡ t → IsState T s → IsSeen v s → s.end ≡ Some e → e < k → Contains list s

-- the state of a transactor at place k, as far as the steps before k tell it
pub record IsLast (T : Run) (k : ℕ) (s : State) : Type 0 where
  pub begins : Begins T s.point.who s.begin
  pub within : s.begin ≤ k
  pub point_is : s.point ≡ point_at T s.point.who s.begin
  pub stays : (j : ℕ) → s.begin ≤ j → j < k → ¬ Leaves T s.point.who j
  pub lasts : s.end ≡ None
  pub stable : IsLeastFrom s.begin (Stabilizes T s.point.who) k s.stable
  pub made : IsTrue s.made ↔ ((j : ℕ) × (s.begin ≤ j) × (j < k) × ActsAt T s.point.who j)

-- the last state of t at place k; None where t doesn't exist there, or has ended
abbrev pub IsLastOf : Run → ℕ → ℕ → Option State → Type 0
IsLastOf T t k None = (born T k ≤ t) ⊎ Ended T t k
IsLastOf T t k (Some s) = (s.point.who ≡ t) × IsLast T k s

-- the course of t up to place k
pub record IsCourse (T : Run) (v : Window) (t k : ℕ) (c : Course) : Type 0 where
  pub past : ArePast T v t k c.done.items
  pub last_is : IsLastOf T t k c.last

-- for each lane the course of its transactor
pub record AreCourses (T : Run) (plan : Plan) (k : ℕ) (courses : List Course) : Type 0 where
  pub count_is : length courses ≡ length plan.lanes
  pub each : (rank : ℕ) (l : Lane) (c : Course) → slice_get plan.lanes rank ≡ Some l → slice_get courses rank ≡ Some c → IsCourse T plan.window l.who k c

-- a point whose numbers are low
pub record IsLowPoint (p : Point) : Type 0 where
  pub interval : p.interval < 2 ^ 31
  pub incarnation : p.incarnation < 2 ^ 31

-- the course of t before the first step, where there are so many starts
pub record IsNewCourse (starts t : ℕ) (c : Course) : Type 0 where
  pub none_done : c.done.items ≡ []
  pub start : t < starts → c.last ≡ Some (begun (record { who = t; interval = 1; incarnation = 0 }) 0)
  pub other : starts ≤ t → c.last ≡ None

-- the course of a rank, if it has one, is another, as R tells; the others stay
pub record Rewrites (rank : Option ℕ) (R : Course → Course → Type 0) (old new : List Course) : Type 0 where
  pub count_is : length new ≡ length old
  pub there : (r : ℕ) (c d : Course) → rank ≡ Some r → slice_get old r ≡ Some c → slice_get new r ≡ Some d → R c d
  pub others : (r : ℕ) → ¬ (rank ≡ Some r) → slice_get new r ≡ slice_get old r

-- for each of the first so many courses its states that are seen
pub record AreSeen (v : Window) (courses : List Course) (k : ℕ) (states : List (Vec State Global)) : Type 0 where
  pub count_is : length states ≡ k
  pub each : (rank : ℕ) (c : Course) (l : Vec State Global) → slice_get courses rank ≡ Some c → slice_get states rank ≡ Some l → l.items ≡ with_last v c.last c.done.items

-- the courses behind the step at place k of the one who acts there
pub record AreMidway (T : Run) (plan : Plan) (k : ℕ) (courses : List Course) : Type 0 where
  pub count_is : length courses ≡ length plan.lanes
  pub acts : (rank : ℕ) (l : Lane) (c : Course) → slice_get plan.lanes rank ≡ Some l → slice_get courses rank ≡ Some c → ActsAt T l.who k → IsCourse T plan.window l.who (suc k) c
  pub idle : (rank : ℕ) (l : Lane) (c : Course) → slice_get plan.lanes rank ≡ Some l → slice_get courses rank ≡ Some c → ¬ ActsAt T l.who k → IsCourse T plan.window l.who k c

-- for each of the first so many lanes its course before the first step
pub record AreFirst (T : Run) (plan : Plan) (k : ℕ) (courses : List Course) : Type 0 where
  pub count_is : length courses ≡ k
  pub each : (rank : ℕ) (l : Lane) (c : Course) → slice_get plan.lanes rank ≡ Some l → slice_get courses rank ≡ Some c → IsCourse T plan.window l.who 0 c
