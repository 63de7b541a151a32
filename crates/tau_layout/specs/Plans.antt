-- Where the parts of a picture stand (docs/formats.md, "Pictures").
use Rattle.std.specs.Prelude.{◌≡◌, ℕ, List, length, Option, Some, None, slice_get}
use Rattle.tau_trace.specs.Run.{Run}
use Rattle.tau_svg.specs.declared.shapes.grid.Grid.{Grid}
use Rattle.tau_layout.specs.declared.lanes.Lane.{Lane}
use Rattle.tau_svg.specs.declared.shapes.window.Window.{Window}
use Rattle.tau_svg.specs.Shapes.Windows.{count}
use Rattle.tau_layout.specs.Lanes.{AreLanes, nodes_below, longest_name}
use Rattle.tau_svg.specs.Shapes.Grids.{grid_of, x_of, y_of, strip_of}

-- the places that are drawn, the lanes, how many nodes have one, and the bytes of the longest name
pub record Plan : Type 0 where
  pub window : Window
  pub lanes : List Lane
  pub nodes : ℕ
  pub longest : ℕ

-- the plan of a run for a window
pub record IsPlan (T : Run) (v : Window) (plan : Plan) : Type 0 where
  pub window_is : plan.window ≡ v
  pub lanes_are : AreLanes T v plan.lanes
  pub nodes_is : plan.nodes ≡ nodes_below plan.lanes T.opening.nodes
  pub longest_is : plan.longest ≡ longest_name T.opening.names plan.lanes

-- the measures
abbrev pub grid : Plan → Grid
grid plan = grid_of (count plan.window) (length plan.lanes) plan.nodes plan.longest

-- the middle of the lane with so many lanes before it
abbrev pub lane_x : Plan → ℕ → Lane → ℕ
lane_x plan rank lane = x_of (grid plan) rank (nodes_below plan.lanes lane.node)

-- the middle of the row of place k, and where the place stands in the strip
abbrev pub row_y : Plan → ℕ → ℕ
row_y plan k = y_of (grid plan) plan.window k

abbrev pub strip_x : Plan → ℕ → ℕ
strip_x plan k = strip_of (grid plan) plan.window k

-- transactor t has the lane with so many lanes before it
pub record HasRank (plan : Plan) (t rank : ℕ) : Type 0 where
  pub lane : Lane
  pub at_rank : slice_get plan.lanes rank ≡ Some lane
  pub of : lane.who ≡ t

-- how many lanes stand before that of t; None where it has none
abbrev pub IsRank : Plan → ℕ → Option ℕ → Type 0
IsRank plan t None = (rank : ℕ) → ¬ HasRank plan t rank
IsRank plan t (Some rank) = HasRank plan t rank

-- x is the middle of the lane of t
pub record HasX (plan : Plan) (t x : ℕ) : Type 0 where
  pub rank : ℕ
  pub ranked : HasRank plan t rank
  pub is : x ≡ lane_x plan rank ranked.lane

-- the middle of the lane of t; None where it has none
abbrev pub IsX : Plan → ℕ → Option ℕ → Type 0
IsX plan t None = (x : ℕ) → ¬ HasX plan t x
IsX plan t (Some x) = HasX plan t x
