-- The chain of the step that was asked for: a frame round each state, a curve for each link, and a ring (docs/formats.md, "Pictures").
use Rattle.std.specs.Prelude.{◌≡◌, ℕ, ◌+◌, ◌-◌, ◌/◌, List, [], ◌∷◌, ◌++◌, Option, Some, None, if◌then◌else◌, nat_lt, min, Contains, codes}
use Rattle.tau_svg.specs.Markup.Lines.{Piece, plain, Line, empty, text}
use Rattle.tau_svg.specs.Shapes.Shapes.{line, class, is_number, is_word, rect, rounded, path, go_to}
use Rattle.tau_svg.specs.Shapes.Windows.{IsDrawn}
use Rattle.tau_svg.specs.Shapes.Each.{EachItem}
use Rattle.tau_points.specs.declared.point.Point.{Point}
use Rattle.tau_explain.specs.declared.chains.chained.Chained.{Chained}
use Rattle.tau_trace.specs.Run.{Run}
use Rattle.tau_layout.specs.Lanes.{StandsIn}
use Rattle.tau_layout.specs.Plans.{Plan, HasRank, lane_x, row_y}
use Rattle.tau_scene.specs.declared.timelines.states.State.{State}
use Rattle.tau_scene.specs.declared.looks.looks.Seen.{Seen}
use Rattle.tau_scene.specs.declared.looks.looks.Looks.{Looks}
use Rattle.tau_layout.specs.declared.paths.spots.Spot.{Spot}
use Rattle.tau_layout.specs.Paths.Spots.{IsSpot}
use Rattle.tau_drawing.specs.States.Names.{seen_at}
use Rattle.tau_drawing.specs.States.StateLines.{state_top, state_foot}

-- the state of a point is one of those that are seen, in the lane with this middle
pub record ShowsState (plan : Plan) (looks : Looks) (p : Point) (s : State) (x : ℕ) : Type 0 where
  pub rank : ℕ
  pub ranked : HasRank plan p.who rank
  pub x_is : x ≡ lane_x plan rank ranked.lane
  pub seen : Seen
  pub held : Contains (seen_at looks rank) seen
  pub state_is : seen.state ≡ s
  pub of : s.point ≡ p

-- the frame round a state in the lane with this middle
abbrev pub frame_line : Plan → State → ℕ → Line
frame_line plan s x = rect (codes "why") (x - 9) (state_top plan s - 3) 18 (state_foot plan s - state_top plan s + 6) (rounded 6) empty

-- the frame round the state of a point of the chain, if that is seen
pub data FrameLines (plan : Plan) (looks : Looks) (c : Chained) : List Line → Type 0 where
  framed : {s : State} {x : ℕ} → ShowsState plan looks c.point s x → FrameLines plan looks c (frame_line plan s x ∷ [])
  unframed : ((s : State) (x : ℕ) → ¬ ShowsState plan looks c.point s x) → FrameLines plan looks c []

-- a curve from the spot of a step to the side of a lane
abbrev pub curve_way : ℕ → ℕ → ℕ → ℕ → List Piece
curve_way x1 y1 x2 y2 =
    let middle = (x1 + x2) / 2 in
    go_to (codes "M") x1 y1 ++ (go_to (codes "C") middle y1 ++ (go_to (codes " ") middle y2 ++ go_to (codes " ") x2 y2))

abbrev pub curve : ℕ → ℕ → ℕ → ℕ → Line
curve x1 y1 x2 y2 = path (plain (codes "why link") ∷ []) (curve_way x1 y1 x2 y2) empty

-- it leaves the spot and comes to the middle of the lane with some room between
abbrev pub link_line : ℕ → ℕ → ℕ → ℕ → Line
link_line x1 y1 x2 y2 = if nat_lt x1 x2 then curve (x1 + 10) y1 (x2 - 12) y2 else curve (x1 - 10) y1 (x2 + 12) y2

-- the lesser of place j and the place of the end of a state, if it ends
abbrev pub no_later : ℕ → Option ℕ → ℕ
no_later j None = j
no_later j (Some e) = min j e

-- the link to a point of the chain is drawn: the step at place j, which makes it, is drawn at this spot in another lane than that
-- of the point, and the state of the point is seen
pub record ShowsLink (T : Run) (plan : Plan) (looks : Looks) (c : Chained) (j : ℕ) (spot : Spot) (s : State) (x : ℕ) : Type 0 where
  pub by : c.by ≡ Some j
  pub drawn : IsDrawn plan.window j
  pub apart : ¬ StandsIn T j c.point.who
  pub at : IsSpot T plan j spot
  pub to : ShowsState plan looks c.point s x

-- the curve of the link to a point of the chain, if it is drawn
pub data LinkLines (T : Run) (plan : Plan) (looks : Looks) (c : Chained) : List Line → Type 0 where
  link_drawn : {j x : ℕ} {spot : Spot} {s : State} → ShowsLink T plan looks c j spot s x → LinkLines T plan looks c (link_line spot.x spot.y x (row_y plan (no_later j s.end)) ∷ [])
  link_undrawn : ((j x : ℕ) (spot : Spot) (s : State) → ¬ ShowsLink T plan looks c j spot s x) → LinkLines T plan looks c []

-- the heads of curves have the colour of the curves in the dark too
abbrev pub head_line : Line
head_line = line (codes "style") (is_word (codes "type") (codes "text/css") ∷ []) (text (plain (codes "@media (prefers-color-scheme:dark){#tau-to-why path{fill:#f06ac4}}") ∷ []))

abbrev pub head_lines : List Line → List Line
head_lines [] = []
head_lines (curve ∷ curves) = head_line ∷ []

-- the links of a chain, and the colour of their heads where one is drawn
pub record AreLinkLines (T : Run) (plan : Plan) (looks : Looks) (chain : List Chained) (lines : List Line) : Type 0 where
  pub links : List Line
  pub links_are : EachItem (LinkLines T plan looks) chain links
  pub are : lines ≡ links ++ head_lines links

-- the ring round the spot of the step that was asked for
abbrev pub ring_line : Spot → Line
ring_line spot = line (codes "circle") (class (codes "why") ∷ is_number (codes "cx") spot.x ∷ is_number (codes "cy") spot.y ∷ is_number (codes "r") 12 ∷ []) empty

-- the ring, if the step is drawn
pub data RingLines (T : Run) (plan : Plan) (k : ℕ) : List Line → Type 0 where
  ring_drawn : (spot : Spot) → IsDrawn plan.window k → IsSpot T plan k spot → RingLines T plan k (ring_line spot ∷ [])
  ring_undrawn : ¬ IsDrawn plan.window k → RingLines T plan k []

-- the frames of a chain, then its links, then the ring
pub record AreChainLines (T : Run) (plan : Plan) (looks : Looks) (k : ℕ) (chain : List Chained) (lines : List Line) : Type 0 where
  pub frames : List Line
  pub frames_are : EachItem (FrameLines plan looks) chain frames
  pub links : List Line
  pub links_are : AreLinkLines T plan looks chain links
  pub ring : List Line
  pub ring_is : RingLines T plan k ring
  pub is : lines ≡ frames ++ (links ++ ring)
