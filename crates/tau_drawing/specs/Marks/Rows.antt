-- The rows of a picture: the place and the text of each step (docs/formats.md, "Pictures").
use Rattle.std.specs.Prelude.{◌≡◌, ℕ, ◌+◌, List, [], ◌∷◌, ◌++◌, codes}
use Rattle.tau_svg.specs.Markup.Texts.{cut}
use Rattle.tau_svg.specs.Markup.Lines.{Line, number, said}
use Rattle.tau_svg.specs.Shapes.Shapes.{text_at}
use Rattle.tau_svg.specs.Shapes.Each.{EachPlace}
use Rattle.tau_trace.specs.Run.{Run}
use Rattle.tau_layout.specs.Plans.{Plan}
use Rattle.tau_scene.specs.Words.Texts.{bare_text}
use Rattle.tau_layout.specs.declared.paths.spots.Spot.{Spot}
use Rattle.tau_layout.specs.Paths.Spots.{IsSpot}
use Rattle.tau_scene.specs.declared.looks.kinds.RowLook.{RowLook}
use Rattle.tau_scene.specs.declared.looks.kinds.RowLook.TheVariants as rows
use Rattle.tau_scene.specs.declared.looks.looks.StepLook.{StepLook}
use Rattle.tau_drawing.specs.Marks.Marks.{HasLook}

-- the class of a row
abbrev pub row_word : RowLook → List ℕ
row_word rows.Good = codes "good"
row_word rows.Warn = codes "warn"
row_word rows.Bad = codes "bad"
row_word rows.Gone = codes "gone"
row_word rows.Minor = codes "minor"
row_word rows.Row = codes "row"

-- the place of a step, in its row
abbrev pub place_line : ℕ → Spot → Line
place_line k p = text_at (codes "num") 44 (p.y + 4) (number k ∷ [])

-- its text without the outer brackets, with its note
abbrev pub row_line : Run → ℕ → StepLook → Spot → Line
row_line T k look p = text_at (row_word look.row) 54 (p.y + 4) (said (cut (bare_text T k ++ look.note.items) 46) ∷ [])

abbrev pub IsRow : Run → Plan → List StepLook → ℕ → List Line → Type 0
IsRow T plan looks k lines = (look : StepLook) × (p : Spot) × HasLook plan looks k look × IsSpot T plan k p × (lines ≡ place_line k p ∷ row_line T k look p ∷ [])

-- for each step that is drawn, by place
abbrev pub AreRows : Run → Plan → List StepLook → List Line → Type 0
AreRows T plan looks lines = EachPlace (IsRow T plan looks) plan.window.from plan.window.to lines
