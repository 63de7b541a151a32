-- The names of lanes again, below each 50 rows (docs/formats.md, "Pictures").
use Rattle.std.specs.Prelude.{◌≡◌, ℕ, ◌+◌, ◌-◌, ◌*◌, ◌/◌, List, [], ◌∷◌, Some, length, slice_get, if◌then◌else◌, codes}
use Rattle.tau_svg.specs.Markup.Lines.{Line, empty}
use Rattle.tau_value.specs.Written.{name_written}
use Rattle.tau_trace.specs.Run.{Run}
use Rattle.tau_svg.specs.declared.shapes.grid.Grid.{Grid}
use Rattle.tau_svg.specs.Shapes.Grids.{rows_height}
use Rattle.tau_svg.specs.Shapes.Windows.{count}
use Rattle.tau_svg.specs.Shapes.Each.{EachPlace}
use Rattle.tau_svg.specs.Shapes.Shapes.{rect}
use Rattle.tau_layout.specs.declared.lanes.Lane.{Lane}
use Rattle.tau_layout.specs.Plans.{Plan, grid, lane_x}
use Rattle.tau_drawing.specs.Lanes.LaneLines.{name_line}

-- where the line of names below the first so many rows ends: above the next row
abbrev pub names_foot : Grid → ℕ → ℕ
names_foot g rows = g.top + rows_height g.row g.names rows - g.row / 2

-- the frame of a name, which hides what stands behind it: the state, and where the lanes are wide message lines too
abbrev pub frame_half : Grid → ℕ
frame_half g = if g.is_wide then 56 else 7

abbrev pub frame_line : Grid → ℕ → ℕ → Line
frame_line g x foot = rect (codes "node") (x - frame_half g) (foot - g.names + 1) (2 * frame_half g) (g.names - 2) [] empty

-- the frame and the name of the lane with this middle
abbrev pub named_lines : Grid → ℕ → ℕ → List ℕ → List Line
named_lines g x foot name = frame_line g x foot ∷ name_line g x foot name ∷ []

-- those of the lane with so many lanes before it, below the first so many rows
pub record IsNamed (T : Run) (plan : Plan) (rows rank : ℕ) (lines : List Line) : Type 0 where
  pub lane : Lane
  pub at_rank : slice_get plan.lanes rank ≡ Some lane
  pub are : lines ≡ named_lines (grid plan) (lane_x plan rank lane) (names_foot (grid plan) rows) (name_written T.opening.names lane.who)

-- the line of the names of all lanes, by rank, below the first n times 50 rows
abbrev pub IsNamesLine : Run → Plan → ℕ → List Line → Type 0
IsNamesLine T plan n lines = EachPlace (IsNamed T plan (50 * n)) 0 (length plan.lanes) lines

-- one below each 50 rows
abbrev pub AreNameLines : Run → Plan → List Line → Type 0
AreNameLines T plan lines = EachPlace (IsNamesLine T plan) 1 (count plan.window / 50 + 1) lines
