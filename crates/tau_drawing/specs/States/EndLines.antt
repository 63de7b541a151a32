-- What may be kept if all else is lost (docs/formats.md, "Pictures").
use Rattle.std.specs.Prelude.{◌≡◌, ℕ, ◌+◌, ◌*◌, ◌/◌, ◌%◌, List, [], ◌∷◌, ◌++◌, Option, Some, None, length, slice_get, codes}
use Rattle.tau_svg.specs.Markup.Texts.{cut, cut_inside}
use Rattle.tau_svg.specs.Markup.Lines.{plain, said, Line, empty, titled}
use Rattle.tau_trace.specs.Run.{Run}
use Rattle.tau_svg.specs.Shapes.Each.{EachPlace}
use Rattle.tau_svg.specs.Shapes.Shapes.{line, symbol_at, text_at}
use Rattle.tau_layout.specs.declared.lanes.Lane.{Lane}
use Rattle.tau_layout.specs.Plans.{Plan, grid, lane_x}
use Rattle.tau_scene.specs.Words.Texts.{who_text}
use Rattle.tau_scene.specs.declared.looks.kinds.EndLook.{EndLook}
use Rattle.tau_scene.specs.declared.looks.looks.Ending.{Ending}
use Rattle.tau_scene.specs.declared.looks.looks.Looks.{Looks}
use Rattle.tau_drawing.specs.States.Names.{end_symbol, end_class}

abbrev pub heading_line : Plan → Line
heading_line plan = text_at (codes "b") 16 ((grid plan).foot + 18) (plain (codes "What may be kept if all else is lost") ∷ [])

-- where what is kept of the lane with so many lanes before it stands below the rows: in which column of the list, and in which row
abbrev pub end_x : Plan → ℕ → ℕ
end_x plan rank = 24 + 250 * (rank % (grid plan).columns)

abbrev pub end_y : Plan → ℕ → ℕ
end_y plan rank = (grid plan).foot + 36 + 16 * (rank / (grid plan).columns)

-- the symbol at the foot of the lane with this middle, with the name of the transactor and what is said of it as its title
abbrev pub foot_line : Plan → ℕ → EndLook → List ℕ → List ℕ → Line
foot_line plan x look name text = line (codes "use") (symbol_at (codes "#tau-end-") (end_symbol look) x ((grid plan).foot + 11)) (titled (said (cut (name ++ text) 400) ∷ []))

-- the same in the list, and the text beside it, where a longer name is cut in the middle
abbrev pub symbol_line : Plan → ℕ → EndLook → Line
symbol_line plan rank look = line (codes "use") (symbol_at (codes "#tau-end-") (end_symbol look) (end_x plan rank) (end_y plan rank)) empty

abbrev pub text_line : Plan → ℕ → EndLook → List ℕ → List ℕ → Line
text_line plan rank look name text = text_at (end_class look) (end_x plan rank + 12) (end_y plan rank + 4) (said (cut (cut_inside name 15 ++ text) 33) ∷ [])

abbrev pub end_lines : Plan → ℕ → ℕ → EndLook → List ℕ → List ℕ → List Line
end_lines plan rank x look name text = foot_line plan x look name text ∷ symbol_line plan rank look ∷ text_line plan rank look name text ∷ []

abbrev pub ending_lines : Plan → ℕ → ℕ → List ℕ → Option Ending → List Line
ending_lines plan rank x name None = []
ending_lines plan rank x name (Some e) = end_lines plan rank x e.look name e.text.items

-- the lines of the lane with so many lanes before it
pub record IsEndAt (names : List (List ℕ)) (plan : Plan) (looks : Looks) (rank : ℕ) (lines : List Line) : Type 0 where
  pub lane : Lane
  pub at_rank : slice_get plan.lanes rank ≡ Some lane
  pub are : lines ≡ ending_lines plan rank (lane_x plan rank lane) (who_text names lane.who) (slice_get looks.ends.items rank)

-- the heading, and for each lane, by rank, what may be kept of its transactor
pub record AreEndLines (T : Run) (plan : Plan) (looks : Looks) (lines : List Line) : Type 0 where
  pub lanes : List Line
  pub lanes_are : EachPlace (IsEndAt T.opening.names plan looks) 0 (length plan.lanes) lanes
  pub are : lines ≡ heading_line plan ∷ lanes
