-- What a picture shows of a run (docs/formats.md, "Pictures").
use Rattle.std.specs.Prelude.{◌≡◌, ◌↔◌, ℕ, ◌+◌, List, Some, IsTrue, slice_get, length}
use Rattle.tau_tree.specs.declared.programs.Program.{Program}
use Rattle.tau_trace.specs.declared.step.Step.{Step}
use Rattle.tau_trace.specs.Run.{Run, step_at}
use Rattle.tau_svg.specs.declared.shapes.window.Window.{Window}
use Rattle.tau_svg.specs.Shapes.Windows.{count}
use Rattle.tau_layout.specs.declared.lanes.Lane.{Lane}
use Rattle.tau_layout.specs.Plans.{Plan}
use Rattle.tau_cut.specs.declared.cut.Marked.{Marked}
use Rattle.tau_scene.specs.declared.looks.looks.StepLook.{StepLook}
use Rattle.tau_scene.specs.declared.looks.looks.Ending.{Ending}
use Rattle.tau_scene.specs.declared.looks.looks.Looks.{Looks}
use Rattle.tau_scene.specs.Looks.Kinds.{row_look}
use Rattle.tau_scene.specs.Causes.Looks.{AreLaneSeen, IsMarkLook, IsUndone, falls_at}
use Rattle.tau_scene.specs.Notes.Notes.{IsNote}
use Rattle.tau_scene.specs.Notes.Endings.{IsEnding}

-- what is shown of step s, which stands at place k
pub record IsStepLook (P : Program) (T : Run) (cut : List Marked) (k : ℕ) (s : Step) (look : StepLook) : Type 0 where
  pub mark_is : IsMarkLook T cut k s look.mark
  pub undone_is : IsTrue look.undone ↔ IsUndone T k
  pub row_is : look.row ≡ row_look s look.mark (falls_at T k) look.undone
  pub note_is : IsNote P T cut k s look.note.items

-- what is shown of the drawn steps, by place
pub record AreStepLooks (P : Program) (T : Run) (v : Window) (cut : List Marked) (looks : List StepLook) : Type 0 where
  pub count_is : length looks ≡ count v
  pub each : (row : ℕ) (s : Step) (look : StepLook) → step_at T (v.from + row) ≡ Some s → slice_get looks row ≡ Some look → IsStepLook P T cut (v.from + row) s look

-- what may be kept of the transactors of the lanes, by rank
pub record AreEndings (P : Program) (T : Run) (lanes : List Lane) (cut : List Marked) (ends : List Ending) : Type 0 where
  pub count_is : length ends ≡ length lanes
  pub each : (rank : ℕ) (l : Lane) (e : Ending) → slice_get lanes rank ≡ Some l → slice_get ends rank ≡ Some e → IsEnding P T cut l.who e.look e.text.items

-- what a picture shows of its states, its steps and its ends
pub record IsLooks (P : Program) (T : Run) (plan : Plan) (cut : List Marked) (looks : Looks) : Type 0 where
  pub states_are : AreLaneSeen T plan cut looks.states.items
  pub steps_are : AreStepLooks P T plan.window cut looks.steps.items
  pub ends_are : AreEndings P T plan.lanes cut looks.ends.items
