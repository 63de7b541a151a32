-- The bands of nodes (docs/formats.md, "Pictures").
use Rattle.std.specs.Prelude.{◌≡◌, ℕ, zero, suc, ◌+◌, ◌-◌, ◌/◌, List, [], ◌∷◌, ◌++◌, nat_lt, if◌then◌else◌, codes}
use Rattle.std.specs.List.{count_by}
use Rattle.tau_svg.specs.Markup.Lines.{Piece, plain, number, Line, empty}
use Rattle.tau_trace.specs.Run.{Run}
use Rattle.tau_svg.specs.declared.shapes.grid.Grid.{Grid}
use Rattle.tau_svg.specs.Shapes.Grids.{x_of}
use Rattle.tau_svg.specs.Shapes.Shapes.{rect, rounded, text_at}
use Rattle.tau_layout.specs.declared.lanes.Lane.{Lane}
use Rattle.tau_layout.specs.Lanes.{nodes_below}
use Rattle.tau_layout.specs.Plans.{Plan, grid}

-- how many lanes stand at nodes below node n
abbrev pub lanes_below : List Lane → ℕ → ℕ
lanes_below lanes n = count_by (λ l. nat_lt l.node n) lanes

-- how wide the lanes stand of which the first and the last have these middles
abbrev pub span : Grid → ℕ → ℕ → ℕ
span g first last = last - first + g.lane

-- the frame of the lanes of a node
abbrev pub band_line : Grid → ℕ → ℕ → Line
band_line g first last = rect (codes "node") (first - g.lane / 2 + 1) g.band (span g first last - 2) (g.foot + 24 - g.band) (rounded 4) empty

-- the number of a node, with the word where there is room
abbrev pub node_pieces : Grid → ℕ → ℕ → ℕ → List Piece
node_pieces g n first last = if nat_lt (span g first last) 56 then number n ∷ [] else plain (codes "node ") ∷ number n ∷ []

abbrev pub node_line : Grid → ℕ → ℕ → ℕ → Line
node_line g n first last = text_at (codes "minor") (first - g.lane / 2 + 6) (g.band + 14) (node_pieces g n first last)

-- the middles of the first and of the last lane of node n, where it has one
abbrev pub first_x : Plan → ℕ → ℕ
first_x plan n = x_of (grid plan) (lanes_below plan.lanes n) (nodes_below plan.lanes n)

abbrev pub last_x : Plan → ℕ → ℕ
last_x plan n = x_of (grid plan) (lanes_below plan.lanes (n + 1) - 1) (nodes_below plan.lanes n)

-- the band of node n and its number, where it has a lane
abbrev pub band_lines : Plan → ℕ → List Line
band_lines plan n =
    if nat_lt (lanes_below plan.lanes n) (lanes_below plan.lanes (n + 1))
    then band_line (grid plan) (first_x plan n) (last_x plan n) ∷ node_line (grid plan) n (first_x plan n) (last_x plan n) ∷ []
    else []

-- the bands of the nodes below node n, by number
abbrev pub bands_below : Plan → ℕ → List Line
bands_below plan zero = []
bands_below plan (suc n) = bands_below plan n ++ band_lines plan n

-- the bands of the nodes of a run
abbrev pub AreNodeBands : Run → Plan → List Line → Type 0
AreNodeBands T plan lines = lines ≡ bands_below plan T.opening.nodes
