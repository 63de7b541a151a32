-- The names and the axes of lanes (docs/formats.md, "Pictures").
use Rattle.std.specs.Prelude.{◌≡◌, ℕ, ◌+◌, ◌-◌, List, [], ◌∷◌, ◌++◌, Option, Some, None, length, slice_get, nat_lt, if◌then◌else◌, codes}
use Rattle.tau_svg.specs.Markup.Texts.{cut_inside}
use Rattle.tau_svg.specs.Markup.Lines.{Piece, plain, number, said, Attribute, text, titled, Line}
use Rattle.tau_value.specs.Written.{name_written}
use Rattle.tau_trace.specs.Run.{Run, len}
use Rattle.tau_trace.specs.Places.{IsFirst}
use Rattle.tau_trace.specs.Histories.{EndsAt}
use Rattle.tau_past.specs.Tables.{IsBirth}
use Rattle.tau_svg.specs.declared.shapes.grid.Grid.{Grid}
use Rattle.tau_svg.specs.Shapes.Each.{EachPlace}
use Rattle.tau_svg.specs.Shapes.Shapes.{class, line, text_at, path, go, go_to}
use Rattle.tau_layout.specs.declared.lanes.Lane.{Lane}
use Rattle.tau_layout.specs.Plans.{Plan, grid, lane_x, row_y}

-- a text that stands upright at a place
abbrev pub turned : ℕ → ℕ → Attribute
turned x y = record { name = codes "transform"; value = plain (codes "translate(") ∷ number x ∷ plain (codes " ") ∷ number y ∷ plain (codes ")rotate(-90)") ∷ [] }

-- the name of a lane above this height, where the lanes are wide, and else upright; a longer name is cut in the middle
abbrev pub wide_line : ℕ → ℕ → List ℕ → Line
wide_line x y label = text_at (codes "lane") x y (said label ∷ [])

abbrev pub tall_line : ℕ → ℕ → List ℕ → Line
tall_line x y label = line (codes "text") (class (codes "tall") ∷ turned x y ∷ []) (text (said label ∷ []))

abbrev pub name_line : Grid → ℕ → ℕ → List ℕ → Line
name_line g x foot name = if g.is_wide then wide_line x (foot - 8) (cut_inside name 15) else tall_line (x + 4) (foot - 6) (cut_inside name 12)

-- at the top the names stand above the lanes
abbrev pub top_name : Grid → ℕ → List ℕ → Line
top_name g x name = name_line g x (g.top - 12) name

-- where an axis begins: at the New of its transactor, and above the rows for a start and where the New isn't drawn
abbrev pub axis_top : Plan → Option ℕ → ℕ
axis_top plan None = (grid plan).top - 12
axis_top plan (Some k) = if nat_lt k plan.window.from then (grid plan).top - 12 else row_y plan k

-- where it ends: at the step by which its transactor ended, or else below the rows
abbrev pub axis_foot : Plan → Option ℕ → ℕ
axis_foot plan None = (grid plan).foot
axis_foot plan (Some k) = row_y plan k

-- an axis, with the name and the node of its transactor
abbrev pub axis_way : ℕ → ℕ → ℕ → List Piece
axis_way x top foot = go_to (codes "M") x top ++ go (codes "V") foot

abbrev pub axis_line : ℕ → ℕ → ℕ → List ℕ → ℕ → Line
axis_line x top foot name node = path (plain (codes "axis") ∷ []) (axis_way x top foot) (titled (said name ∷ plain (codes " on node ") ∷ number node ∷ []))

-- the lines of a lane with this middle: the name and the axis of its transactor
pub record AreLinesAt (T : Run) (plan : Plan) (x : ℕ) (lane : Lane) (lines : List Line) : Type 0 where
  pub birth : Option ℕ
  pub birth_is : IsBirth T lane.who birth
  pub end : Option ℕ
  pub end_is : IsFirst (EndsAt T lane.who) (len T) end
  pub are : lines ≡ (let name = name_written T.opening.names lane.who in
      top_name (grid plan) x name ∷ axis_line x (axis_top plan birth) (axis_foot plan end) name lane.node ∷ [])

-- the lines of the lane with so many lanes before it
pub record IsLane (T : Run) (plan : Plan) (rank : ℕ) (lines : List Line) : Type 0 where
  pub lane : Lane
  pub at_rank : slice_get plan.lanes rank ≡ Some lane
  pub told : AreLinesAt T plan (lane_x plan rank lane) lane lines

-- the lines of the lanes, by rank
abbrev pub AreLaneLines : Run → Plan → List Line → Type 0
AreLaneLines T plan lines = EachPlace (IsLane T plan) 0 (length plan.lanes) lines
