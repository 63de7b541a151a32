-- The strip: the whole window in a small picture, above the rows (docs/formats.md, "Pictures").
use Rattle.std.specs.Prelude.{◌≡◌, ℕ, ◌+◌, ◌-◌, ◌*◌, ◌<◌, List, [], ◌∷◌, ◌++◌, Option, Some, None, length, slice_get, nat_lt, if◌then◌else◌, option_and_then, codes}
use Rattle.std.specs.List.{flat_map}
use Rattle.tau_svg.specs.Markup.Texts.{cut, cut_inside}
use Rattle.tau_svg.specs.Markup.Lines.{plain, number, said, Line, empty, titled}
use Rattle.tau_trace.specs.Run.{Run}
use Rattle.tau_svg.specs.Shapes.Each.{EachPlace}
use Rattle.tau_svg.specs.Shapes.Shapes.{rect, rect_of, rounded, text_at}
use Rattle.tau_layout.specs.declared.lanes.Lane.{Lane}
use Rattle.tau_layout.specs.Lanes.{StandsIn}
use Rattle.tau_layout.specs.Plans.{Plan, grid, strip_x, HasRank}
use Rattle.tau_scene.specs.Words.Texts.{who_text, step_text}
use Rattle.tau_scene.specs.declared.looks.looks.Seen.{Seen}
use Rattle.tau_scene.specs.declared.looks.looks.StepLook.{StepLook}
use Rattle.tau_scene.specs.declared.looks.looks.Looks.{Looks}
use Rattle.tau_drawing.specs.States.Names.{state_class, tick_class, seen_at}

abbrev pub frame_line : Plan → Line
frame_line plan = rect (codes "node") 52 76 ((grid plan).width - 74) (8 * length plan.lanes + 5) (rounded 2) empty

-- the name of a lane; a longer one is cut in the middle
abbrev pub label_line : ℕ → List ℕ → Line
label_line rank name = text_at (codes "tiny") 48 (85 + 8 * rank) (said (cut_inside name 9) ∷ [])

-- where a state ends in the strip: behind the step that ends it, or at the end of the window
abbrev pub strip_end : Plan → Option ℕ → ℕ
strip_end plan None = strip_x plan plan.window.to
strip_end plan (Some k) = strip_x plan (k + 1)

-- a state, and the part in which it is stable, where its Stabilize stands before the end of the window
abbrev pub span_line : Plan → ℕ → Seen → Line
span_line plan rank s =
    let begin = strip_x plan s.state.begin in
    rect_of (state_class s.look) (codes " flat") begin (80 + 8 * rank) (strip_end plan s.state.end - begin) 5 empty

abbrev pub stable_span : Plan → ℕ → Seen → Option ℕ → List Line
stable_span plan rank s None = []
stable_span plan rank s (Some k) =
    if nat_lt k plan.window.to
    then rect_of (state_class s.look) (codes "-s") (strip_x plan k) (81 + 8 * rank) (strip_end plan s.state.end - strip_x plan k) 3 empty ∷ []
    else []

abbrev pub span_lines : Plan → ℕ → Seen → List Line
span_lines plan rank s = span_line plan rank s ∷ stable_span plan rank s s.state.stable

-- the lane with so many lanes before it: its name, and its states that are seen
pub record IsStripLane (names : List (List ℕ)) (plan : Plan) (looks : Looks) (rank : ℕ) (lines : List Line) : Type 0 where
  pub lane : Lane
  pub at_rank : slice_get plan.lanes rank ≡ Some lane
  pub are : lines ≡ label_line rank (who_text names lane.who) ∷ flat_map (span_lines plan rank) (seen_at looks rank)

-- how many lanes stand before the one in which the step at place k stands; None where it stands in none
abbrev pub IsRankAt : Run → Plan → ℕ → Option ℕ → Type 0
IsRankAt T plan k None = (t rank : ℕ) → StandsIn T k t → ¬ HasRank plan t rank
IsRankAt T plan k (Some rank) = (t : ℕ) × StandsIn T k t × HasRank plan t rank

-- the class of the tick of the drawn step at place k
abbrev pub class_at : Plan → Looks → ℕ → Option (List ℕ)
class_at plan looks k = option_and_then (λ (look : StepLook). tick_class look.mark) (slice_get looks.steps.items (k - plan.window.from))

-- a tick, with its step
abbrev pub cut_step : Run → ℕ → List ℕ
cut_step T k = cut (step_text T k) 400

abbrev pub tick_line : Run → Plan → ℕ → ℕ → List ℕ → Line
tick_line T plan k rank class = rect class (strip_x plan k) (79 + 8 * rank) 3 7 [] (titled (number k ∷ plain (codes " ") ∷ said (cut_step T k) ∷ []))

abbrev pub tick_lines : Run → Plan → ℕ → Option ℕ → Option (List ℕ) → List Line
tick_lines T plan k (Some rank) (Some class) = tick_line T plan k rank class ∷ []
tick_lines T plan k rank class = []

-- the tick of the step at place k, at its lane
pub record IsTick (T : Run) (plan : Plan) (looks : Looks) (k : ℕ) (lines : List Line) : Type 0 where
  pub rank : Option ℕ
  pub rank_is : IsRankAt T plan k rank
  pub are : lines ≡ tick_lines T plan k rank (class_at plan looks k)

-- the first and the last place
abbrev pub place_lines : Plan → List Line
place_lines plan =
    let y = 90 + 8 * length plan.lanes in
    text_at (codes "minor") 54 y (number plan.window.from ∷ []) ∷ text_at (codes "num") ((grid plan).width - 24) y (number (plan.window.to - 1) ∷ []) ∷ []

pub record IsStrip (T : Run) (plan : Plan) (looks : Looks) (lines : List Line) : Type 0 where
  pub lanes : List Line
  pub lanes_are : EachPlace (IsStripLane T.opening.names plan looks) 0 (length plan.lanes) lanes
  pub ticks : List Line
  pub ticks_are : EachPlace (IsTick T plan looks) plan.window.from plan.window.to ticks
  pub are : lines ≡ frame_line plan ∷ (lanes ++ ticks ++ place_lines plan)

-- the lines of the strip, which stands where there is room for it
pub data AreStripLines (T : Run) (plan : Plan) (looks : Looks) : List Line → Type 0 where
  with_strip : {lines : List Line} → 0 < (grid plan).over → IsStrip T plan looks lines → AreStripLines T plan looks lines
  without : (grid plan).over ≡ 0 → AreStripLines T plan looks []
