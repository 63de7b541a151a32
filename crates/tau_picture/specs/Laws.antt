-- Laws of pictures, each the contract of a function of the crate.
use Rattle.std.specs.Prelude.{◌≡◌, ◌≢◌, ◌↔◌, ℕ, ◌+◌, ◌-◌, ◌*◌, ◌/◌, ◌<◌, ◌≤◌, ◌⊎◌, List, [], ◌∷◌, ◌++◌, Option, Some, None, Contains, length, slice_get, codes}
use Rattle.tau_svg.specs.Markup.Texts.{escaped}
use Rattle.tau_svg.specs.Markup.Lines.{Piece, plain, Line, titled}
use Rattle.tau_points.specs.declared.point.Point.{Point}
use Rattle.tau_svg.specs.declared.shapes.window.Window.{Window}
use Rattle.tau_svg.specs.Shapes.Windows.{IsDrawn, count}
use Rattle.tau_svg.specs.Shapes.Shapes.{go, go_to, path}
use Rattle.tau_tree.specs.declared.programs.Program.{Program}
use Rattle.tau_script.specs.Openings.{program_opening}
use Rattle.tau_trace.specs.declared.step.Step.{Step}
use Rattle.tau_trace.specs.declared.step.Step.TheVariants.{Lose}
use Rattle.tau_trace.specs.Run.{Run, len, step_at}
use Rattle.tau_trace.specs.Numbering.{IsOrigin}
use Rattle.tau_trace.specs.Known.{WellFormed}
use Rattle.tau_trace.specs.Histories.{Closes}
use Rattle.tau_past.specs.Audits.{ChecksAt}
use Rattle.tau_past.specs.Pasts.{Past}
use Rattle.tau_past.specs.Safety.{RolledBack, Safe}
use Rattle.tau_legal.specs.Traces.{Fitting}
use Rattle.tau_layout.specs.declared.lanes.Lane.{Lane}
use Rattle.tau_layout.specs.Lanes.{ComesBefore, StandsIn}
use Rattle.tau_layout.specs.Plans.{Plan, IsPlan, grid, lane_x, HasX, row_y}
use Rattle.tau_scene.specs.declared.timelines.states.State.{State}
use Rattle.tau_scene.specs.Timelines.States.{IsSeen}
use Rattle.tau_cut.specs.Consistent.{IsConsistent}
use Rattle.tau_scene.specs.declared.looks.kinds.StateLook.TheVariants as states
use Rattle.tau_scene.specs.declared.looks.kinds.MarkLook.TheVariants as marks
use Rattle.tau_scene.specs.declared.looks.looks.Seen.{Seen}
use Rattle.tau_scene.specs.declared.looks.looks.StepLook.{StepLook}
use Rattle.tau_scene.specs.declared.looks.looks.Looks.{Looks}
use Rattle.tau_layout.specs.declared.paths.spots.Spot.{Spot}
use Rattle.tau_layout.specs.Paths.Spots.{IsSpot}
use Rattle.tau_layout.specs.Paths.Senders.{met_by}
use Rattle.tau_layout.specs.Paths.Paths.{curve}
use Rattle.tau_drawing.specs.Messages.Arrows.{line_kind}
use Rattle.tau_drawing.specs.Messages.Messages.{IsMessageLine}
use Rattle.tau_drawing.specs.Marks.Marks.{HasLook, mark_line}
use Rattle.tau_drawing.specs.States.Names.{seen_at}
use Rattle.tau_drawing.specs.States.StateLines.{state_top, state_foot}
use Rattle.tau_picture.specs.Pictures.{IsPicture, IsPictureText}
use Rattle.tau_picture.specs.Markup.{IsMarkup}

-- a program, a run of it, a window and what is asked have one picture, and one text
pub record PicturesAreUnique : Type 0 where
  pub one_picture : (P : Program) (T : Run) → WellFormed T → T.opening ≡ program_opening P → (from to : ℕ) (ask : Option ℕ) (lines others : List Line) → IsPicture P T from to ask lines → IsPicture P T from to ask others → lines ≡ others
  pub one_text : (P : Program) (T : Run) → WellFormed T → T.opening ≡ program_opening P → (from to : ℕ) (ask : Option ℕ) (bytes others : List ℕ) → IsPictureText P T from to ask bytes → IsPictureText P T from to ask others → bytes ≡ others

-- in a picture a state looks fallen exactly where a falling step, anywhere in the run, was made at its point
abbrev pub GreyIsRolledBack : Type 0
GreyIsRolledBack = (P : Program) (T : Run) (from to : ℕ) (ask : Option ℕ) (lines : List Line) (picture : IsPicture P T from to ask lines) (rank : ℕ) (s : Seen)
    → Contains (seen_at picture.looks rank) s → (s.look ≡ states.Fallen) ↔ RolledBack T s.state.point

-- in a picture of a safe run no state looks broken
abbrev pub SafeRunsShowNoneBroken : Type 0
SafeRunsShowNoneBroken = (P : Program) (T : Run) (from to : ℕ) (ask : Option ℕ) (lines : List Line) (picture : IsPicture P T from to ask lines) (rank : ℕ) (s : Seen)
    → Safe T → Contains (seen_at picture.looks rank) s → s.look ≢ states.Broken

-- the marks of steps stand below one another, in the rows of their places, so no two at one spot; lines of names, which stand
-- below each 50 rows, take their own height
abbrev pub MarksStandInRows : Type 0
MarksStandInRows = (T : Run) (plan : Plan) (j k : ℕ) (p q : Spot)
    → IsDrawn plan.window j → IsDrawn plan.window k → j < k → k < len T → IsSpot T plan j p → IsSpot T plan k q → q.y ≡ p.y + (grid plan).row * (k - j) + (grid plan).names * ((k - plan.window.from) / 50 - (j - plan.window.from) / 50)

-- there is one mark for each drawn step, by place, at the spot of the step
pub record AreMarksOfSteps (T : Run) (plan : Plan) (looks : List StepLook) (marks : List Line) : Type 0 where
  pub count_is : length marks ≡ count plan.window
  pub each : (k : ℕ) → IsDrawn plan.window k → (look : StepLook) × (p : Spot) × HasLook plan looks k look × IsSpot T plan k p × (slice_get marks (k - plan.window.from) ≡ Some (mark_line T k look p))

-- so it is in each picture
abbrev pub MarksAreTheSteps : Type 0
MarksAreTheSteps = (P : Program) (T : Run) (from to : ℕ) (ask : Option ℕ) (lines : List Line) (picture : IsPicture P T from to ask lines)
    → AreMarksOfSteps T picture.plan picture.looks.steps.items picture.marks

-- lanes stand at least 28 apart, by node and then by number; they, the spots of drawn steps and the boxes of states that are seen
-- stand within the picture
pub record StandApart (T : Run) (plan : Plan) : Type 0 where
  pub apart : (q r : ℕ) (l m : Lane) → slice_get plan.lanes q ≡ Some l → slice_get plan.lanes r ≡ Some m → ComesBefore l m → lane_x plan q l + 28 ≤ lane_x plan r m
  pub lanes_within : (rank : ℕ) (l : Lane) → slice_get plan.lanes rank ≡ Some l → (386 ≤ lane_x plan rank l) × (lane_x plan rank l + 16 < (grid plan).width)
  pub spots_within : (k : ℕ) (p : Spot) → IsDrawn plan.window k → IsSpot T plan k p → (p.x < (grid plan).width) × ((grid plan).top ≤ p.y) × (p.y < (grid plan).foot)
  pub states_within : (s : State) → IsSeen plan.window s → ((grid plan).top ≤ state_top plan s + 12) × (state_foot plan s ≤ (grid plan).foot)
  pub rows_within : (120 < (grid plan).top) × ((grid plan).foot < (grid plan).height)

-- so it is in each picture
abbrev pub LanesStandApart : Type 0
LanesStandApart = (P : Program) (T : Run) (from to : ℕ) (ask : Option ℕ) (lines : List Line) (picture : IsPicture P T from to ask lines) → WellFormed T → StandApart T picture.plan

-- a path leads from one place to another: it begins with a move to the one, and each line and each curve leads on
pub data Leads (from : Spot) : List Piece → Spot → Type 0 where
  begins : Leads from (go_to (codes "M") from.x from.y) from
  across : {way : List Piece} {at : Spot} (x : ℕ) → Leads from way at → Leads from (way ++ go (codes "H") x) (record { x = x; y = at.y })
  down : {way : List Piece} {at : Spot} (y : ℕ) → Leads from way at → Leads from (way ++ go (codes "V") y) (record { x = at.x; y = y })
  curved : {way : List Piece} {at : Spot} (x y to_x to_y : ℕ) → Leads from way at → Leads from (way ++ curve x y to_x to_y) (record { x = to_x; y = to_y })

-- the arrow of message m to a step in the lane with middle x begins at the spot of the message's origin where that is drawn, in the
-- row of the step and 24 to the left of the middle where it has none, and else above the rows
pub record BeginsAt (T : Run) (plan : Plan) (k m x : ℕ) (from : Spot) : Type 0 where
  pub sent : (j by : ℕ) (p : Spot) → IsOrigin T j by m → IsDrawn plan.window j → IsSpot T plan j p → from ≡ p
  pub posted : ((j by : ℕ) → ¬ IsOrigin T j by m) → (from.x ≡ x - 24) × (from.y ≡ row_y plan k)
  pub earlier : (j by : ℕ) → IsOrigin T j by m → ¬ IsDrawn plan.window j → from.y ≡ (grid plan).top - 12

-- it ends 6 beside the middle, in the row of the step, and for a Lose at its spot
abbrev pub EndsAt : Run → Plan → ℕ → Step → ℕ → Spot → Type 0
EndsAt T plan k (Lose m) x to = IsSpot T plan k to
EndsAt T plan k s x to = ((to.x ≡ x + 6) ⊎ (to.x ≡ x - 6)) × (to.y ≡ row_y plan k)

-- the line is an arrow of message m to step s at place k, in the lane with middle x, of the kind of the step
pub record IsArrow (T : Run) (plan : Plan) (k : ℕ) (s : Step) (m x : ℕ) (line : Line) : Type 0 where
  pub from : Spot
  pub to : Spot
  pub begins_at : BeginsAt T plan k m x from
  pub ends_at : EndsAt T plan k s x to
  pub kind : List Piece
  pub kind_is : (more : List Piece) × (kind ≡ plain (codes "m m-") ∷ plain (line_kind s) ∷ more)
  pub way : List Piece
  pub leads : Leads from way to
  pub title : List Piece
  pub is : line ≡ path kind way (titled title)

-- the kinds of lines that lead to no step that receives or loses a message
pub data IsOtherKind : List Piece → Type 0 where
  flies : IsOtherKind (plain (codes "m m-fly") ∷ [])
  goes_out : IsOtherKind (plain (codes "m m-out") ∷ [])
  creates : IsOtherKind (plain (codes "m m-new") ∷ [])

pub record IsOtherLine (line : Line) : Type 0 where
  pub kind : List Piece
  pub kind_is : IsOtherKind kind
  pub way : List Piece
  pub title : List Piece
  pub is : line ≡ path kind way (titled title)

pub record ArrowsJoin : Type 0 where
  -- the message lines of a step that receives or loses a message, and stands in a lane, are one arrow
  pub one_arrow : (P : Program) (T : Run) (v : Window) (plan : Plan) → WellFormed T → IsPlan T v plan → (k : ℕ) (s : Step) (m t x : ℕ) (lines : List Line)
      → IsMessageLine P T plan k lines → step_at T k ≡ Some s → met_by s ≡ Some m → StandsIn T k t → HasX plan t x → (line : Line) × (lines ≡ line ∷ []) × IsArrow T plan k s m x line
  -- and those of another step are of other kinds
  pub others : (P : Program) (T : Run) (plan : Plan) (k : ℕ) (s : Step) (lines : List Line) → IsMessageLine P T plan k lines → step_at T k ≡ Some s → met_by s ≡ None → (line : Line) → Contains lines line → IsOtherLine line

-- some consistent set holds the Checkpoint at place k
pub record MayBeKept (T : Run) (k : ℕ) : Type 0 where
  pub steps : List ℕ
  pub consistent : IsConsistent T steps
  pub holds : Contains steps k

-- a state looks kept exactly where a Checkpoint was made at its point that some consistent set holds, and the mark of a Checkpoint
-- where that Checkpoint is one; in the past of one nothing is rolled back
pub record IsBlueKept (T : Run) (plan : Plan) (looks : Looks) : Type 0 where
  pub states_are : (rank : ℕ) (s : Seen) → Contains (seen_at looks rank) s → (s.look ≡ states.Kept) ↔ ((k : ℕ) × ChecksAt T k s.state.point × MayBeKept T k)
  pub marks_are : (t k : ℕ) (look : StepLook) → Closes T t k → IsDrawn plan.window k → HasLook plan looks.steps.items k look → (look.mark ≡ marks.Kept) ↔ MayBeKept T k
  pub none_fell : (k : ℕ) (p q : Point) → MayBeKept T k → ChecksAt T k p → Past T p q → ¬ RolledBack T q

-- so it is in each picture
abbrev pub BlueMayBeKept : Type 0
BlueMayBeKept = (P : Program) (T : Run) (from to : ℕ) (ask : Option ℕ) (lines : List Line) (picture : IsPicture P T from to ask lines) → IsBlueKept T picture.plan picture.looks

-- no state and no mark looks broken
pub record ShowsNoneBroken (plan : Plan) (looks : Looks) : Type 0 where
  pub states_are : (rank : ℕ) (s : Seen) → Contains (seen_at looks rank) s → s.look ≢ states.Broken
  pub marks_are : (k : ℕ) (look : StepLook) → IsDrawn plan.window k → HasLook plan looks.steps.items k look → look.mark ≢ marks.Broken

-- in a picture of a run in which every step fits, as of each legal run
abbrev pub LegalRunsDrawSafe : Type 0
LegalRunsDrawSafe = (P : Program) (T : Run) (from to : ℕ) (ask : Option ℕ) (lines : List Line) (picture : IsPicture P T from to ask lines)
    → WellFormed T → Fitting P T → ShowsNoneBroken picture.plan picture.looks

-- a text in which an ampersand begins one of the three entities, and no angle bracket stands
pub data IsEscaped : List ℕ → Type 0 where
  ends : IsEscaped []
  ampersand : {rest : List ℕ} → IsEscaped rest → IsEscaped (codes "&amp;" ++ rest)
  less : {rest : List ℕ} → IsEscaped rest → IsEscaped (codes "&lt;" ++ rest)
  greater : {rest : List ℕ} → IsEscaped rest → IsEscaped (codes "&gt;" ++ rest)
  other : {b : ℕ} {rest : List ℕ} → b ≢ 38 → b ≢ 60 → b ≢ 62 → IsEscaped rest → IsEscaped (b ∷ rest)

pub record PicturesAreMarkup : Type 0 where
  -- each picture is markup: no name, value or word in it has a quote, an ampersand or an angle bracket, but in the fixed lines
  pub lines_are : (P : Program) (T : Run) (from to : ℕ) (ask : Option ℕ) (lines : List Line) → IsPicture P T from to ask lines → IsMarkup lines
  -- and a text that stands in it, escaped, has no angle bracket, and an ampersand only where an entity begins
  pub texts_are : (text : List ℕ) → IsEscaped (escaped text)
