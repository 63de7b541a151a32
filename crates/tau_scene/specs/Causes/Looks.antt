-- The looks of states and of the marks of steps (docs/formats.md, "Pictures").
use Rattle.std.specs.Prelude.{◌≡◌, ◌↔◌, ℕ, ◌+◌, Bool, false, IsTrue, List, Contains, None, map, All, length, Some, slice_get, option_and_then}
use Rattle.std.specs.Option.{option_map_or}
use Rattle.std.specs.declared.alloc.Global.{Global}
use Rattle.std.specs.declared.vec.Vec.{Vec}
use Rattle.tau_points.specs.declared.point.Point.{Point}
use Rattle.tau_trace.specs.declared.step.Step.{Step}
use Rattle.tau_trace.specs.declared.step.Step.TheVariants.{Checkpoint}
use Rattle.tau_trace.specs.Steps.{actor}
use Rattle.tau_trace.specs.Run.{Run, step_at, ActsAt}
use Rattle.tau_trace.specs.Histories.{Falls, move_at, is_fall}
use Rattle.tau_trace.specs.Points.{point_at}
use Rattle.tau_past.specs.Audits.{ChecksAt}
use Rattle.tau_past.specs.Pasts.{Past}
use Rattle.tau_past.specs.Safety.{RolledBack}
use Rattle.tau_layout.specs.declared.lanes.Lane.{Lane}
use Rattle.tau_layout.specs.Plans.{Plan}
use Rattle.tau_scene.specs.declared.timelines.states.State.{State}
use Rattle.tau_scene.specs.Timelines.States.{AreStates}
use Rattle.tau_cut.specs.declared.cut.Marked.{Marked}
use Rattle.tau_cut.specs.Consistent.{MadeBy}
use Rattle.tau_cut.specs.Cuts.{places_in}
use Rattle.tau_scene.specs.declared.looks.kinds.StateLook.{StateLook}
use Rattle.tau_scene.specs.declared.looks.kinds.StateLook.TheVariants as states
use Rattle.tau_scene.specs.declared.looks.kinds.MarkLook.{MarkLook}
use Rattle.tau_scene.specs.declared.looks.kinds.MarkLook.TheVariants as marks
use Rattle.tau_scene.specs.declared.looks.looks.Seen.{Seen}
use Rattle.tau_scene.specs.Looks.Kinds.{mark_look, row_look}
use Rattle.tau_svg.specs.declared.shapes.window.Window.{Window}
use Rattle.tau_svg.specs.Shapes.Windows.{count}
use Rattle.tau_scene.specs.declared.causes.marks.StepMark.{StepMark}

-- a point of p's past is rolled back
pub record RestsOnFallen (T : Run) (p : Point) : Type 0 where
  pub root : Point
  pub in_past : Past T p root
  pub rolled_back : RolledBack T root

-- a Checkpoint was made at p
abbrev pub IsSaved : Run → Point → Type 0
IsSaved T p = (k : ℕ) × ChecksAt T k p

-- one that the cut holds was
abbrev pub IsKept : Run → List Marked → Point → Type 0
IsKept T cut p = MadeBy T (places_in cut) p

-- the look of a state: the first of fallen, kept, broken, unkept, doomed and open that applies
abbrev pub IsStateLook : Run → List Marked → State → StateLook → Type 0
IsStateLook T cut s states.Fallen = RolledBack T s.point
IsStateLook T cut s states.Kept = ¬ RolledBack T s.point × IsKept T cut s.point
IsStateLook T cut s states.Broken = ¬ RolledBack T s.point × IsSaved T s.point × ¬ IsKept T cut s.point × RestsOnFallen T s.point
IsStateLook T cut s states.Unkept = ¬ RolledBack T s.point × IsSaved T s.point × ¬ IsKept T cut s.point × ¬ RestsOnFallen T s.point
IsStateLook T cut s states.Doomed = ¬ RolledBack T s.point × (s.end ≡ None) × RestsOnFallen T s.point
IsStateLook T cut s states.Open = ¬ RolledBack T s.point × (s.end ≡ None) × ¬ RestsOnFallen T s.point

-- the states of t that are seen in the plan's window, by time, each with its look
pub record AreSeen (T : Run) (plan : Plan) (cut : List Marked) (t : ℕ) (seen : List Seen) : Type 0 where
  pub states_are : AreStates T plan.window t (map (λ s. s.state) seen)
  pub looks_are : All (λ s. IsStateLook T cut s.state s.look) seen

-- so it is for each lane
pub record AreLaneSeen (T : Run) (plan : Plan) (cut : List Marked) (seen : List (Vec Seen Global)) : Type 0 where
  pub count_is : length seen ≡ length plan.lanes
  pub each : (rank : ℕ) (l : Lane) (v : Vec Seen Global) → slice_get plan.lanes rank ≡ Some l → slice_get seen rank ≡ Some v → AreSeen T plan cut l.who v.items

-- whether a falling step stands at place k
abbrev pub falls_at : Run → ℕ → Bool
falls_at T k = option_map_or (λ t. is_fall (move_at T t k)) (option_and_then actor (step_at T k)) false

-- the look of the mark of a Checkpoint at place k, made at p, is that of its state
abbrev pub IsSavedMark : Run → List Marked → ℕ → Point → MarkLook → Type 0
IsSavedMark T cut k p marks.Kept = Contains (places_in cut) k
IsSavedMark T cut k p marks.Broken = ¬ Contains (places_in cut) k × RestsOnFallen T p
IsSavedMark T cut k p marks.Unkept = ¬ Contains (places_in cut) k × ¬ RestsOnFallen T p
IsSavedMark T cut k p look = ⊥

-- the look of the mark of step s, which stands at place k: its kind, or for a Checkpoint that of its state
pub record IsMarkLook (T : Run) (cut : List Marked) (k : ℕ) (s : Step) (look : MarkLook) : Type 0 where
  pub saved : MarkLook
  pub saved_is : (t : ℕ) → s ≡ Checkpoint t → IsSavedMark T cut k (point_at T t k) saved
  pub is : look ≡ mark_look s (falls_at T k) saved

-- the step at place k is undone: its point is rolled back, and it isn't a falling step
pub record IsUndone (T : Run) (k : ℕ) : Type 0 where
  pub by : ℕ
  pub acts : ActsAt T by k
  pub stays : ¬ Falls T by k
  pub rolled_back : RolledBack T (point_at T by k)

-- what is shown of step s, which stands at place k: whether it is a falling step, whether it is undone, and the looks of its mark and
-- of its row
pub record IsStepMark (T : Run) (cut : List Marked) (k : ℕ) (s : Step) (shown : StepMark) : Type 0 where
  pub falls_is : shown.falls ≡ falls_at T k
  pub mark_is : IsMarkLook T cut k s shown.mark
  pub undone_is : IsTrue shown.undone ↔ IsUndone T k
  pub row_is : shown.row ≡ row_look s shown.mark (falls_at T k) shown.undone

-- so it is for the drawn steps, by place
pub record AreStepMarks (T : Run) (v : Window) (cut : List Marked) (marks : List StepMark) : Type 0 where
  pub count_is : length marks ≡ count v
  pub each : (row : ℕ) (s : Step) (shown : StepMark) → step_at T (v.from + row) ≡ Some s → slice_get marks row ≡ Some shown → IsStepMark T cut (v.from + row) s shown
