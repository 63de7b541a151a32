-- The looks of states and of the marks of steps, by what they are told by.
use Rattle.std.specs.Prelude.{◌≡◌, ℕ, ◌+◌, Bool, false, IsFalse, if◌then◌else◌, List, Option, Some, None, Contains, slice_get, length}
use Rattle.std.specs.Option.{option_map_or}
use Rattle.std.specs.declared.alloc.Global.{Global}
use Rattle.std.specs.declared.vec.Vec.{Vec}
use Rattle.tau_points.specs.declared.point.Point.{Point}
use Rattle.tau_past.specs.declared.made.Made.{Made}
use Rattle.tau_trace.specs.declared.step.Step.{Step}
use Rattle.tau_trace.specs.Run.{Run, step_at}
use Rattle.tau_past.specs.Audits.{ChecksAt}
use Rattle.tau_scene.specs.Timelines.States.{IsState}
use Rattle.tau_cut.specs.declared.cut.Marked.{Marked}
use Rattle.tau_scene.specs.declared.looks.kinds.StateLook.{StateLook}
use Rattle.tau_scene.specs.declared.looks.kinds.StateLook.TheVariants as states
use Rattle.tau_scene.specs.declared.looks.kinds.MarkLook.{MarkLook}
use Rattle.tau_scene.specs.declared.looks.kinds.MarkLook.TheVariants as marks
use Rattle.tau_scene.specs.declared.looks.looks.Seen.{Seen}
use Rattle.tau_scene.specs.declared.causes.sources.Sourced.{Sourced}
use Rattle.tau_scene.specs.declared.causes.marks.StepMark.{StepMark}
use Rattle.tau_scene.specs.Causes.Looks.{IsStateLook, IsStepMark}
use Rattle.tau_scene.specs.Causes.Inner.Resting.{AreGrounds, IsSource, IsAsked}

-- the look of a state that ends by a Checkpoint, by whether the cut holds that, and whether a point of its past is rolled back
abbrev pub saved_look : Bool → Bool → StateLook
saved_look kept rests = if kept then states.Kept else (if rests then states.Broken else states.Unkept)

-- the look of a state that doesn't end
abbrev pub unsaved_look : Bool → StateLook
unsaved_look rests = if rests then states.Doomed else states.Open

-- the look of the mark of a Checkpoint
abbrev pub saved_mark : Bool → Bool → MarkLook
saved_mark kept rests = if kept then marks.Kept else (if rests then marks.Broken else marks.Unkept)

-- a state is shown with its look, by whatever it is told
pub record IsShown (T : Run) (fallen : List Point) (kept : List Bool) (resting : List Point) (s : Sourced) (x : Seen) : Type 0 where
  pub state_is : x.state ≡ s.state
  pub look_is : (cut : List Marked) (asked : List Point) → AreGrounds T cut asked fallen kept resting → IsState T s.state → IsSource T s.state.point s.source → IsAsked T resting s.source → IsStateLook T cut s.state x.look

-- so are the first n states of a lane
pub record AreShown (T : Run) (fallen : List Point) (kept : List Bool) (resting : List Point) (lane : List Sourced) (n : ℕ) (seen : List Seen) : Type 0 where
  pub count_is : length seen ≡ n
  pub each : (i : ℕ) (s : Sourced) (x : Seen) → slice_get lane i ≡ Some s → slice_get seen i ≡ Some x → IsShown T fallen kept resting s x

-- and all states of the first n lanes
pub record AreLanesShown (T : Run) (fallen : List Point) (kept : List Bool) (resting : List Point) (lanes : List (Vec Sourced Global)) (n : ℕ) (seen : List (Vec Seen Global)) : Type 0 where
  pub count_is : length seen ≡ n
  pub each : (rank : ℕ) (v : Vec Sourced Global) (w : Vec Seen Global) → slice_get lanes rank ≡ Some v → slice_get seen rank ≡ Some w → AreShown T fallen kept resting v.items (length v.items) w.items

-- the step at place k is marked, by whatever it is told
abbrev pub IsMarkedStep : Run → List Point → List Bool → List Point → ℕ → Step → StepMark → Type 0
IsMarkedStep T fallen kept resting k s x =
    (cut : List Marked) (asked : List Point) → AreGrounds T cut asked fallen kept resting → ((p : Point) → ChecksAt T k p → Contains asked p) → IsStepMark T cut k s x

-- so are the first n steps from a place on
pub record AreMarkedSteps (T : Run) (fallen : List Point) (kept : List Bool) (resting : List Point) (from n : ℕ) (marks : List StepMark) : Type 0 where
  pub count_is : length marks ≡ n
  pub each : (row : ℕ) (s : Step) (x : StepMark) → step_at T (from + row) ≡ Some s → slice_get marks row ≡ Some x → IsMarkedStep T fallen kept resting (from + row) s x

-- whether a step falls, by its point
abbrev pub made_falls : Option Made → Bool
made_falls made = option_map_or (λ m. m.falls) made false

-- a step that isn't a falling step was made at a point of the list
abbrev pub IsLeftIn : List Point → Option Made → Type 0
IsLeftIn points None = ⊥
IsLeftIn points (Some m) = IsFalse m.falls × Contains points m.point

-- a step was made at a point of the list
abbrev pub IsMadeIn : List Point → Option Made → Type 0
IsMadeIn points None = ⊥
IsMadeIn points (Some m) = Contains points m.point
