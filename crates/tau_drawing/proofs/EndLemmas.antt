-- What may be kept, one lane after another.
use Rattle.std.proofs.Common.{◌≡◌, ◌∙◌, ℕ, ◌+◌, ◌≤◌, ◌<◌, ◌^◌, List, ◌∷◌, length, get_or, refl, ap, arith}
use Rattle.std.specs.Prelude.{slice_get}
use Rattle.tau_svg.specs.Markup.Lines.{Line, with_line, with_lines}
use Rattle.tau_trace.specs.Run.{Run}
use Rattle.tau_svg.specs.Shapes.Grids.{lane_width}
use Rattle.tau_svg.specs.Shapes.Each.{EachPlace, Writes}
use Rattle.tau_svg.proofs.Writing.{these}
use Rattle.tau_layout.specs.declared.columns.Column.{Column}
use Rattle.tau_layout.specs.declared.lanes.Lane.{Lane}
use Rattle.tau_layout.specs.Plans.{Plan}
use Rattle.tau_layout.specs.Inner.Laying.{lane_of, lanes_of, IsColumnOf}
use Rattle.tau_scene.specs.Words.Texts.{who_text}
use Rattle.tau_scene.specs.declared.looks.looks.Looks.{Looks}
use Rattle.tau_drawing.proofs.ColumnLanes.{lane_at, next, rank_below}
use Rattle.tau_drawing.specs.States.EndLines.{heading_line, ending_lines, IsEndAt, AreEndLines}

-- ranks are low, since lanes stand apart
lane_least : (lanes : ℕ) → 28 ≤ lane_width lanes
lane_least lanes = grind arith

pub rank_low : (plan : Plan) (cs : List Column) (k : ℕ) (d : Column) → lanes_of cs ≡ plan.lanes → IsColumnOf plan cs → k < length cs → k < 2 ^ 50
rank_low plan cs k d are each lt = rank_below plan cs are each k d lt (lane_least (length plan.lanes))

pub ends_next : (names : List (List ℕ)) (plan : Plan) (looks : Looks) (cs : List Column) (k : ℕ) (d : Column) (name out old new : List ℕ) → lanes_of cs ≡ plan.lanes → IsColumnOf plan cs → k < length cs
    → Writes (EachPlace (IsEndAt names plan looks) 0 k) out old → name ≡ who_text names (get_or cs k d).who → new ≡ with_lines old (ending_lines plan k (get_or cs k d).x name (slice_get looks.ends.items k)) → Writes (EachPlace (IsEndAt names plan looks) 0 (k + 1)) out new
ends_next names plan looks cs k d name out old new are each lt w is one =
    let o = slice_get looks.ends.items k in
    let x = (get_or cs k d).x in
    let lane = lane_of (get_or cs k d) in
    let Told : ℕ → Lane → List Line → Type 0 = λ x l ls. ls ≡ ending_lines plan k x (who_text names l.who) o in
    next plan cs are each k d lt (IsEndAt names plan looks) Told out old new
    (λ ls told. record { lane = lane; at_rank = lane_at plan cs are each k d lt; are = told }) w
    (these (Told x lane) old new (ending_lines plan k x (who_text names lane.who) o) refl (one ∙ ap (λ n. with_lines old (ending_lines plan k x n o)) is))

pub ends_told : (T : Run) (plan : Plan) (looks : Looks) (out heading new : List ℕ) → heading ≡ with_line out (heading_line plan) → Writes (EachPlace (IsEndAt T.opening.names plan looks) 0 (length plan.lanes)) heading new → Writes (AreEndLines T plan looks) out new
ends_told T plan looks out heading new first w =
    these (AreEndLines T plan looks) out new (heading_line plan ∷ w.lines) (record { lanes = w.lines; lanes_are = w.told; are = refl }) (w.are ∙ ap (λ x. with_lines x w.lines) first)
