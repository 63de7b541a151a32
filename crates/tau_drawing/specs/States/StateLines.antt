-- The states of lanes (docs/formats.md, "Pictures").
use Rattle.std.specs.Prelude.{◌≡◌, ◌⊎◌, ◌↔◌, ℕ, ◌+◌, ◌-◌, ◌*◌, ◌/◌, ◌<◌, ◌≤◌, Bool, true, ◌&&◌, List, [], ◌∷◌, ◌++◌, Option, Some, None, IsTrue, length, slice_get, nat_lt, nat_le, if◌then◌else◌, codes}
use Rattle.std.specs.Fmt.{decimal}
use Rattle.tau_svg.specs.Markup.Lines.{plain, number, said, Line, empty, titled}
use Rattle.tau_trace.specs.Run.{Run}
use Rattle.tau_trace.specs.Numbering.{IsSent, Removes}
use Rattle.tau_svg.specs.Shapes.Windows.{IsDrawn}
use Rattle.tau_svg.specs.Shapes.Each.{EachPlace, EachItem}
use Rattle.tau_svg.specs.Shapes.Shapes.{rect, rect_of, rounded, text_at}
use Rattle.tau_layout.specs.declared.lanes.Lane.{Lane}
use Rattle.tau_layout.specs.Lanes.{StandsIn}
use Rattle.tau_layout.specs.Plans.{Plan, grid, lane_x, row_y}
use Rattle.tau_layout.specs.Paths.Senders.{met_by, ComesFromRight}
use Rattle.tau_layout.specs.Paths.Paths.{offset}
use Rattle.tau_scene.specs.declared.timelines.states.State.{State}
use Rattle.tau_scene.specs.Words.Texts.{state_title}
use Rattle.tau_scene.specs.declared.looks.looks.Seen.{Seen}
use Rattle.tau_scene.specs.declared.looks.looks.Looks.{Looks}
use Rattle.tau_drawing.specs.States.Names.{state_class, state_words, seen_at}

-- where the box of a state begins and ends: below the step that began it, and above the one that ends it, as far as these are drawn
abbrev pub state_top : Plan → State → ℕ
state_top plan s = if nat_le s.begin plan.window.from then (grid plan).top - 12 else row_y plan s.begin - (grid plan).row / 2 + 1

abbrev pub end_foot : Plan → Option ℕ → ℕ
end_foot plan None = (grid plan).foot
end_foot plan (Some k) = if nat_lt k plan.window.to then row_y plan k + (grid plan).row / 2 - 1 else (grid plan).foot

abbrev pub state_foot : Plan → State → ℕ
state_foot plan s = end_foot plan s.end

-- the box of a state in the lane with this middle
abbrev pub box_line : Plan → List (List ℕ) → ℕ → Seen → Line
box_line plan names x s =
    let top = state_top plan s.state in
    rect (state_class s.look) (x - 5) top 10 (state_foot plan s.state - top) (rounded 3)
    (titled (said (state_title names s.state.point s.state.begin s.state.end (state_words s.look)) ∷ []))

-- the step at place k stands in the lane of t, and receives or loses message m
pub record MeetsIn (T : Run) (t k m : ℕ) : Type 0 where
  pub stands : StandsIn T k t
  pub meets : met_by stands.step ≡ Some m

-- beside the lane of t, in the row of place k, stands the head of a line that comes from the right
pub record HasHead (T : Run) (plan : Plan) (t k : ℕ) : Type 0 where
  pub message : ℕ
  pub meets : MeetsIn T t k message
  pub right : ComesFromRight T plan message t

-- there stands the circle of a Send whose message no step takes
pub record HasCircle (T : Run) (t k : ℕ) : Type 0 where
  pub message : ℕ
  pub sends : IsSent T k t message
  pub flies : (j : ℕ) → ¬ Removes T message j

-- one of them stands in the first row of a state, which is drawn, and not the first that is
pub record IsCrowded (T : Run) (plan : Plan) (s : State) : Type 0 where
  pub later : plan.window.from < s.begin
  pub drawn : s.begin < plan.window.to
  pub crowds : HasHead T plan s.point.who s.begin ⊎ HasCircle T s.point.who s.begin

-- how far beside its lane the interval and the incarnation of a state end that begin so far beside it, where a byte is 5 wide
abbrev pub point_end : State → ℕ → ℕ
point_end s off = off + 5 * (length (decimal s.point.interval) + 1 + length (decimal s.point.incarnation))

-- where the lanes are wide, the line of the message that the step at place k receives or loses comes down on the right through the
-- first row of a state, no further beside the lane than the interval and the incarnation reach that begin 11 beside it
pub record CrossesAt (T : Run) (plan : Plan) (s : State) (k : ℕ) : Type 0 where
  pub wide : IsTrue (grid plan).is_wide
  pub drawn : IsDrawn plan.window k
  pub later : s.begin ≤ k
  pub message : ℕ
  pub meets : MeetsIn T s.point.who k message
  pub right : ComesFromRight T plan message s.point.who
  pub earlier : right.place < s.begin
  pub near : offset true meets.stands.step message ≤ point_end s 11

abbrev pub IsCrossed : Run → Plan → State → Type 0
IsCrossed T plan s = (k : ℕ) × CrossesAt T plan s k

-- the interval and the incarnation stand above the middle of the first row, and above what crowds it
abbrev pub point_y : Plan → State → Bool → ℕ
point_y plan s crowded = if crowded then state_top plan s + 2 else state_top plan s + (grid plan).row / 2 - 3

-- beside the lane, and where a line crosses them there behind all lines that come down on the right
abbrev pub point_off : Bool → ℕ
point_off crossed = if crossed then 45 else 11

-- where the lanes are wide, and they end before the lines that come down on the left of the next lane
abbrev pub point_lines : Plan → ℕ → State → Bool → Bool → List Line
point_lines plan x s crowded crossed =
    if (grid plan).is_wide && nat_le (point_end s (point_off crossed)) 72
    then text_at (codes "pt") (x + point_off crossed) (point_y plan s crowded) (number s.point.interval ∷ plain (codes " ") ∷ number s.point.incarnation ∷ []) ∷ []
    else []

-- where the part begins in which a state is stable, from its Stabilize at place k on
abbrev pub stable_top : Plan → State → ℕ → ℕ
stable_top plan s k = if nat_lt k plan.window.from then state_top plan s else row_y plan k

-- that part, where the Stabilize stands before the end of the window
abbrev pub stable_from : Plan → ℕ → Seen → Option ℕ → List Line
stable_from plan x s None = []
stable_from plan x s (Some k) =
    if nat_lt k plan.window.to
    then rect_of (state_class s.look) (codes "-s") (x - 2) (stable_top plan s.state k) 4 (state_foot plan s.state - stable_top plan s.state k) empty ∷ []
    else []

-- the lines of a state in the lane with this middle
abbrev pub state_lines : Plan → List (List ℕ) → ℕ → Seen → Bool → Bool → List Line
state_lines plan names x s crowded crossed = box_line plan names x s ∷ (point_lines plan x s.state crowded crossed ++ stable_from plan x s s.state.stable)

pub record IsStateAt (T : Run) (plan : Plan) (x : ℕ) (s : Seen) (lines : List Line) : Type 0 where
  pub crowded : Bool
  pub crowded_is : IsTrue crowded ↔ IsCrowded T plan s.state
  pub crossed : Bool
  pub crossed_is : IsTrue crossed ↔ IsCrossed T plan s.state
  pub are : lines ≡ state_lines plan T.opening.names x s crowded crossed

-- the lines of the states that are seen of the lane with so many lanes before it
pub record AreStatesAt (T : Run) (plan : Plan) (looks : Looks) (rank : ℕ) (lines : List Line) : Type 0 where
  pub lane : Lane
  pub at_rank : slice_get plan.lanes rank ≡ Some lane
  pub are : EachItem (IsStateAt T plan (lane_x plan rank lane)) (seen_at looks rank) lines

-- for each lane, by rank, the lines of its states
abbrev pub AreStateLines : Run → Plan → Looks → List Line → Type 0
AreStateLines T plan looks lines = EachPlace (AreStatesAt T plan looks) 0 (length plan.lanes) lines
