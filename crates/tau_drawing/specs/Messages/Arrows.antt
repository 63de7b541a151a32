-- The lines of messages (docs/formats.md, "Pictures").
use Rattle.std.specs.Prelude.{ℕ, ◌+◌, Bool, false, nat_lt, if◌then◌else◌, List, [], ◌∷◌, ◌++◌, codes}
use Rattle.tau_svg.specs.Markup.Lines.{Piece, plain, Line, titled}
use Rattle.tau_value.specs.Val.{Val}
use Rattle.tau_trace.specs.declared.step.Step.{Step}
use Rattle.tau_trace.specs.declared.step.Step.TheVariants.{Drop, Fall, Void, Lose, Echo}
use Rattle.tau_svg.specs.Shapes.Shapes.{go, go_to, path}
use Rattle.tau_svg.specs.declared.shapes.grid.Grid.{Grid}
use Rattle.tau_layout.specs.declared.paths.spots.Spot.{Spot}
use Rattle.tau_layout.specs.declared.paths.sources.Source.{Source}
use Rattle.tau_layout.specs.declared.paths.sources.Source.TheVariants.{Drawn}
use Rattle.tau_layout.specs.Paths.Paths.{receipt_path}
use Rattle.tau_drawing.specs.Messages.Titles.{receipt_title, sent_title, new_title}

-- the kind of the line to a step that receives or loses a message: an Echo has that of a Void, and a Heed that of a Take
abbrev pub line_kind : Step → List ℕ
line_kind (Drop t m) = codes "drop"
line_kind (Fall t m) = codes "fall"
line_kind (Void t m) = codes "void"
line_kind (Echo t m) = codes "void"
line_kind (Lose m) = codes "lose"
line_kind s = codes "take"

-- a line to place k is long where its sender is drawn and stands more than 40 places before
abbrev pub is_long : ℕ → Source → Bool
is_long k (Drawn s) = nat_lt (s.origin.place + 40) k
is_long k s = false

abbrev pub receipt_class : ℕ → Step → Source → List Piece
receipt_class k s source = plain (codes "m m-") ∷ plain (line_kind s) ∷ (if is_long k source then plain (codes " long") ∷ [] else [])

-- the line of message m to t, which the step s at place k receives or loses; p is the middle of the lane in the row of the step
abbrev pub receipt_line : List (List ℕ) → Grid → ℕ → Step → ℕ → ℕ → Val → Source → Spot → Line
receipt_line names g k s m t v source p = path (receipt_class k s source) (receipt_path g.is_wide g.top s m source p) (titled (receipt_title names k s m t v source))

-- the line of message m to t, which the step s at place k makes at the spot p, and which no drawn step receives or loses
abbrev pub sent_class : Bool → List ℕ
sent_class flies = if flies then codes "m m-fly" else codes "m m-out"

abbrev pub sent_line : List (List ℕ) → ℕ → Step → ℕ → ℕ → Val → Bool → Spot → Line
sent_line names k s m t v flies p =
    path (plain (sent_class flies) ∷ []) (go_to (codes "M") p.x p.y ++ go (codes "H") (p.x + 16)) (titled (sent_title names k s m t v flies))

-- the line from t at the spot p to the lane of u, whose middle is x
abbrev pub new_line : List (List ℕ) → ℕ → ℕ → ℕ → Spot → ℕ → Line
new_line names k t u p x =
    path (plain (codes "m m-new") ∷ []) (go_to (codes "M") p.x p.y ++ (go (codes "H") x ++ go (codes "V") (p.y + 8))) (titled (new_title names k t u))
