-- The marks of a picture (docs/formats.md, "Pictures").
use Rattle.std.specs.Prelude.{◌≡◌, ℕ, ◌-◌, Bool, if◌then◌else◌, List, [], ◌∷◌, ◌++◌, Some, slice_get, codes}
use Rattle.tau_svg.specs.Markup.Texts.{cut}
use Rattle.tau_svg.specs.Markup.Lines.{Attribute, Line, plain, number, said, titled}
use Rattle.tau_svg.specs.Shapes.Shapes.{class, line, symbol_at}
use Rattle.tau_svg.specs.Shapes.Each.{EachPlace}
use Rattle.tau_trace.specs.Run.{Run}
use Rattle.tau_layout.specs.Plans.{Plan}
use Rattle.tau_scene.specs.Words.Texts.{step_text}
use Rattle.tau_layout.specs.declared.paths.spots.Spot.{Spot}
use Rattle.tau_layout.specs.Paths.Spots.{IsSpot}
use Rattle.tau_scene.specs.declared.looks.kinds.MarkLook.{MarkLook}
use Rattle.tau_scene.specs.declared.looks.kinds.MarkLook.TheVariants as marks
use Rattle.tau_scene.specs.declared.looks.looks.StepLook.{StepLook}

-- the look of the step at place k, by the looks of the drawn steps
abbrev pub HasLook : Plan → List StepLook → ℕ → StepLook → Type 0
HasLook plan looks k look = slice_get looks (k - plan.window.from) ≡ Some look

-- the symbol of a mark
abbrev pub symbol_word : MarkLook → List ℕ
symbol_word marks.Take = codes "take"
symbol_word marks.Drop = codes "drop"
symbol_word marks.Void = codes "void"
symbol_word marks.Fall = codes "fall"
symbol_word marks.Get = codes "get"
symbol_word marks.Ask = codes "ask"
symbol_word marks.Set = codes "set"
symbol_word marks.Skip = codes "skip"
symbol_word marks.Stay = codes "stay"
symbol_word marks.Send = codes "send"
symbol_word marks.New = codes "new"
symbol_word marks.Stabilize = codes "stabilize"
symbol_word marks.Done = codes "done"
symbol_word marks.Hold = codes "hold"
symbol_word marks.Rollback = codes "rollback"
symbol_word marks.Trap = codes "trap"
symbol_word marks.TrapStable = codes "trap-stable"
symbol_word marks.Fail = codes "fail"
symbol_word marks.FailStable = codes "fail-stable"
symbol_word marks.Lose = codes "lose"
symbol_word marks.Kept = codes "kept"
symbol_word marks.Unkept = codes "unkept"
symbol_word marks.Broken = codes "broken"

-- the class of an undone step
abbrev pub undone_class : Bool → List Attribute
undone_class undone = if undone then class (codes "undone") ∷ [] else []

-- the mark of the step at place k: the use of its symbol at its spot, with the place, the step and the note as title
abbrev pub mark_line : Run → ℕ → StepLook → Spot → Line
mark_line T k look p =
    line (codes "use") (undone_class look.undone ++ symbol_at (codes "#tau-") (symbol_word look.mark) p.x p.y)
    (titled (number k ∷ plain (codes " ") ∷ said (cut (step_text T k ++ look.note.items) 400) ∷ []))

abbrev pub IsMark : Run → Plan → List StepLook → ℕ → List Line → Type 0
IsMark T plan looks k lines = (look : StepLook) × (p : Spot) × HasLook plan looks k look × IsSpot T plan k p × (lines ≡ mark_line T k look p ∷ [])

-- one for each step that is drawn, by place
abbrev pub AreMarks : Run → Plan → List StepLook → List Line → Type 0
AreMarks T plan looks lines = EachPlace (IsMark T plan looks) plan.window.from plan.window.to lines
