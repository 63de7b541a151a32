-- What a layout keeps beside its plan.
use Rattle.std.specs.Prelude.{◌≡◌, ℕ, ◌^◌, ◌<◌, ◌≤◌, List, Option, Some, map, slice_get, set, length}
use Rattle.tau_layout.specs.declared.columns.Column.{Column}
use Rattle.tau_svg.specs.declared.shapes.grid.Grid.{Grid}
use Rattle.tau_layout.specs.declared.lanes.Lane.{Lane}
use Rattle.tau_svg.specs.declared.shapes.window.Window.{Window}
use Rattle.tau_svg.specs.Shapes.Windows.{count}
use Rattle.tau_svg.specs.Shapes.Grids.{grid_of, x_of}
use Rattle.tau_layout.specs.Lanes.{nodes_below}
use Rattle.tau_layout.specs.Plans.{Plan, lane_x}

-- the lane of a column
abbrev pub lane_of : Column → Lane
lane_of c = record { node = c.node; who = c.who }

abbrev pub lanes_of : List Column → List Lane
lanes_of columns = map lane_of columns

-- each of the first so many lanes has its column, in its place
pub record AreColumns (g : Grid) (lanes : List Lane) (k : ℕ) (columns : List Column) : Type 0 where
  pub count_is : length columns ≡ k
  pub each : (rank : ℕ) (c : Column) → slice_get columns rank ≡ Some c → (slice_get lanes rank ≡ Some (lane_of c)) × (c.x ≡ x_of g rank (nodes_below lanes c.node)) × (386 ≤ c.x) × (c.x < 2 ^ 50)

-- for each transactor the rank of one of the first so many lanes that is its own
pub record AreRanks (lanes : List Lane) (k : ℕ) (ranks : List (Option ℕ)) : Type 0 where
  pub only : (t rank : ℕ) → slice_get ranks t ≡ Some (Some rank) → (rank < k) × ((l : Lane) × (slice_get lanes rank ≡ Some l) × (l.who ≡ t))
  pub all : (rank : ℕ) (l : Lane) → rank < k → slice_get lanes rank ≡ Some l → l.who < length ranks → (r : ℕ) × (slice_get ranks l.who ≡ Some (Some r))

-- what a layout keeps says where its columns stand
pub record IsLaidOut (v : Window) (g : Grid) (columns : List Column) (ranks : List (Option ℕ)) (nodes longest : ℕ) : Type 0 where
  pub window : v.from ≤ v.to
  pub rows : count v ≤ 2000
  pub few : length columns < 2 ^ 40
  pub few_nodes : nodes ≤ 64
  pub short : longest ≤ 12
  pub grid_is : g ≡ grid_of (count v) (length columns) nodes longest
  pub columns_are : AreColumns g (lanes_of columns) (length columns) columns
  pub ranks_are : AreRanks (lanes_of columns) (length columns) ranks
  pub known : (rank : ℕ) (l : Lane) → slice_get (lanes_of columns) rank ≡ Some l → l.who < length ranks

-- the rank of t is noted, where t has a place in the list
abbrev pub Ranks : ℕ → ℕ → List (Option ℕ) → List (Option ℕ) → Type 0
Ranks t rank old new = (length new ≡ length old) × (t < length old → new ≡ set old t (Some rank)) × (length old ≤ t → new ≡ old)

-- each column stands in the middle of its lane
abbrev pub IsColumnOf : Plan → List Column → Type 0
IsColumnOf plan columns = (rank : ℕ) (c : Column) → slice_get columns rank ≡ Some c → (c.x ≡ lane_x plan rank (lane_of c)) × (386 ≤ c.x) × (c.x < 2 ^ 50)
