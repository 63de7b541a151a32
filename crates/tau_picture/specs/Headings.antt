-- The heading of a picture: the sizes of the run, what is drawn of it, and its counts (docs/formats.md, "Pictures").
use Rattle.std.specs.Prelude.{ℕ, ◌-◌, Bool, ◌==◌, ◌&&◌, nat_lt, List, [], ◌∷◌, ◌++◌, length, if◌then◌else◌, codes}
use Rattle.tau_svg.specs.Markup.Lines.{Piece, plain, number, Line}
use Rattle.tau_svg.specs.declared.shapes.window.Window.{Window}
use Rattle.tau_svg.specs.Shapes.Shapes.{text_at}
use Rattle.tau_trace.specs.Steps.{is_checkpoint}
use Rattle.tau_trace.specs.Run.{Run, len}
use Rattle.tau_trace.specs.Numbering.{born}
use Rattle.tau_report.specs.Report.{steps_with, is_hold, is_drop, is_lose, falling_steps}
use Rattle.tau_cut.specs.declared.cut.Marked.{Marked}
use Rattle.tau_cut.specs.Cuts.{places_in}

-- whether all places of a run of n steps are drawn
abbrev pub is_whole : ℕ → Window → Bool
is_whole n v = (v.from == 0) && (v.to == n)

-- which places are drawn, where not all are
abbrev pub span_pieces : Window → List Piece
span_pieces v = plain (codes ", drawn from ") ∷ number v.from ∷ plain (codes " to ") ∷ number (v.to - 1) ∷ []

abbrev pub part_pieces : Window → List Piece
part_pieces v = if nat_lt v.from v.to then span_pieces v else plain (codes ", none drawn") ∷ []

abbrev pub drawn_pieces : ℕ → Window → List Piece
drawn_pieces n v = if is_whole n v then [] else part_pieces v

-- how many steps, transactors and nodes the run has
abbrev pub size_pieces : ℕ → ℕ → ℕ → List Piece
size_pieces steps transactors nodes =
    plain (codes "Steps ") ∷ number steps ∷ plain (codes ", transactors ") ∷ number transactors ∷ plain (codes ", nodes ") ∷ number nodes ∷ []

abbrev pub size_line : Run → Window → Line
size_line T v = text_at (codes "h") 16 30 (size_pieces (len T) (born T (len T)) T.opening.nodes ++ drawn_pieces (len T) v)

-- how many steps are a Checkpoint, how many of these the greatest consistent set has, and how many are a Hold, a Drop, a falling
-- step of any kind, and a Lose
abbrev pub counts_pieces : ℕ → ℕ → ℕ → ℕ → ℕ → ℕ → List Piece
counts_pieces checkpoints kept holds drops falls losses =
    plain (codes "checkpoints ") ∷ number checkpoints ∷ plain (codes ", may be kept ") ∷ number kept ∷ plain (codes ", holds ") ∷ number holds ∷ plain (codes ", drops ") ∷ number drops ∷ plain (codes ", falls ") ∷ number falls ∷ plain (codes ", losses ") ∷ number losses ∷ []

-- the notes of a run of more than 4,000 steps tell no causes
abbrev pub left_out_pieces : ℕ → List Piece
left_out_pieces steps = if nat_lt 4000 steps then plain (codes ", notes without causes") ∷ [] else []

abbrev pub counts_line : Run → List Marked → Line
counts_line T marks =
    text_at (codes "row") 16 50 (counts_pieces (steps_with is_checkpoint T) (length (places_in marks)) (steps_with is_hold T) (steps_with is_drop T) (falling_steps T) (steps_with is_lose T) ++ left_out_pieces (len T))

-- the two lines of the heading
abbrev pub heading_lines : Run → Window → List Marked → List Line
heading_lines T v marks = size_line T v ∷ counts_line T marks ∷ []
