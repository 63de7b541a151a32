-- The strip.
use Rattle.std.proofs.Common.{◌≡◌, ◌∙◌, ℕ, ◌+◌, ◌<◌, List, [], ◌∷◌, ◌++◌, Option, Some, None, length, get_or, refl, sym, ap, subst}
use Rattle.std.specs.List.{flat_map}
use Rattle.tau_svg.specs.Markup.Lines.{Line, with_line, with_lines}
use Rattle.tau_svg.proofs.LineLemmas.{lines_joined}
use Rattle.tau_trace.specs.Run.{Run}
use Rattle.tau_svg.specs.Shapes.Each.{EachPlace, Writes}
use Rattle.tau_svg.proofs.Writing.{these}
use Rattle.tau_layout.specs.declared.columns.Column.{Column}
use Rattle.tau_layout.specs.declared.lanes.Lane.{Lane}
use Rattle.tau_layout.specs.Lanes.{StandsIn}
use Rattle.tau_layout.specs.Plans.{Plan, HasRank, IsRank}
use Rattle.tau_layout.proofs.LaneLemmas.{one_lane}
use Rattle.tau_layout.specs.Inner.Laying.{lane_of, lanes_of, IsColumnOf}
use Rattle.tau_scene.specs.Words.Texts.{who_text}
use Rattle.tau_scene.specs.declared.looks.looks.Looks.{Looks}
use Rattle.tau_drawing.proofs.ColumnLanes.{lane_at, next}
use Rattle.tau_drawing.specs.States.Names.{seen_at}
use Rattle.tau_drawing.specs.States.StripLines.{frame_line, label_line, span_lines, place_lines, IsStripLane, IsRankAt, class_at, tick_line, tick_lines, IsTick, IsStrip}

-- one more lane
pub lanes_next : (names : List (List ℕ)) (plan : Plan) (looks : Looks) (cs : List Column) (k : ℕ) (d : Column) (out old label new : List ℕ) → lanes_of cs ≡ plan.lanes → IsColumnOf plan cs → k < length cs
    → Writes (EachPlace (IsStripLane names plan looks) 0 k) out old → label ≡ with_line old (label_line k (who_text names (get_or cs k d).who)) → new ≡ with_lines label (flat_map (span_lines plan k) (seen_at looks k)) → Writes (EachPlace (IsStripLane names plan looks) 0 (k + 1)) out new
lanes_next names plan looks cs k d out old label new are each lt w first rest =
    let lane = lane_of (get_or cs k d) in
    let spans = flat_map (span_lines plan k) (seen_at looks k) in
    let Told : ℕ → Lane → List Line → Type 0 = λ x l ls. ls ≡ label_line k (who_text names l.who) ∷ flat_map (span_lines plan k) (seen_at looks k) in
    next plan cs are each k d lt (IsStripLane names plan looks) Told out old new
    (λ ls told. record { lane = lane; at_rank = lane_at plan cs are each k d lt; are = told }) w
    (these (Told (get_or cs k d).x lane) old new (label_line k (who_text names lane.who) ∷ spans) refl (rest ∙ ap (λ x. with_lines x spans) first))

-- ticks

-- the rank at a place, by that of the transactor in whose lane the step stands
pub rank_told : (T : Run) (plan : Plan) (k t : ℕ) (r : Option ℕ) → StandsIn T k t → IsRank plan t r → IsRankAt T plan k r
rank_told T plan k t None s never = λ u rank h has. never rank (subst (λ v. HasRank plan v rank) (one_lane T k u t h s) has)
rank_told T plan k t (Some rank) s has = (t, s, has)

pub tick_one : (T : Run) (plan : Plan) (looks : Looks) (k rank : ℕ) (class out new : List ℕ) → IsRankAt T plan k (Some rank) → class_at plan looks k ≡ Some class → new ≡ with_line out (tick_line T plan k rank class) → Writes (IsTick T plan looks k) out new
tick_one T plan looks k rank class out new r e w =
    these (IsTick T plan looks k) out new (tick_line T plan k rank class ∷ []) (record { rank = Some rank; rank_is = r; are = sym (ap (tick_lines T plan k (Some rank)) e) }) w

-- the parts of the strip, one behind the other
pub whole : (T : Run) (plan : Plan) (looks : Looks) (out frame lanes ticks new : List ℕ) → frame ≡ with_line out (frame_line plan) → Writes (EachPlace (IsStripLane T.opening.names plan looks) 0 (length plan.lanes)) frame lanes
    → Writes (EachPlace (IsTick T plan looks) plan.window.from plan.window.to) lanes ticks → new ≡ with_lines ticks (place_lines plan) → Writes (IsStrip T plan looks) out new
whole T plan looks out frame lanes ticks new first a b last =
    these (IsStrip T plan looks) out new (frame_line plan ∷ (a.lines ++ b.lines ++ place_lines plan))
    (record { lanes = a.lines; lanes_are = a.told; ticks = b.lines; ticks_are = b.told; are = refl })
    (last
    ∙ ap (λ w. with_lines w (place_lines plan)) (b.are ∙ ap (λ w. with_lines w b.lines) (a.are ∙ ap (λ w. with_lines w a.lines) first) ∙ sym (lines_joined (with_line out (frame_line plan)) a.lines b.lines))
    ∙ sym (lines_joined (with_line out (frame_line plan)) (a.lines ++ b.lines) (place_lines plan)))
