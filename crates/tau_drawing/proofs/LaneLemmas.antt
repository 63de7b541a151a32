-- The lines of lanes, one lane after another.
use Rattle.std.proofs.Common.{◌≡◌, ◌∙◌, ℕ, ◌+◌, ◌<◌, List, [], ◌∷◌, Option, length, get_or, ap}
use Rattle.tau_svg.specs.Markup.Lines.{with_line}
use Rattle.tau_value.specs.Written.{name_written}
use Rattle.tau_trace.specs.Run.{Run, len}
use Rattle.tau_trace.specs.Places.{IsFirst}
use Rattle.tau_trace.specs.Histories.{EndsAt}
use Rattle.tau_past.specs.Tables.{IsBirth}
use Rattle.tau_svg.specs.Shapes.Each.{EachPlace, Writes}
use Rattle.tau_layout.specs.declared.columns.Column.{Column}
use Rattle.tau_layout.specs.declared.lanes.Lane.{Lane}
use Rattle.tau_layout.specs.Plans.{Plan, grid}
use Rattle.tau_layout.specs.Inner.Laying.{lane_of, lanes_of, IsColumnOf}
use Rattle.tau_drawing.specs.Lanes.LaneLines.{top_name, axis_line, axis_top, axis_foot, AreLinesAt, IsLane}
use Rattle.tau_drawing.proofs.ColumnLanes.{lane_at, next}

pub lane_told : (T : Run) (plan : Plan) (x : ℕ) (lane : Lane) (birth end : Option ℕ) (name out named new : List ℕ) → IsBirth T lane.who birth → IsFirst (EndsAt T lane.who) (len T) end → name ≡ name_written T.opening.names lane.who
    → named ≡ with_line out (top_name (grid plan) x name) → new ≡ with_line named (axis_line x (axis_top plan birth) (axis_foot plan end) name lane.node) → Writes (AreLinesAt T plan x lane) out new
lane_told T plan x lane birth end name out named new b e n first second =
    let axis = axis_line x (axis_top plan birth) (axis_foot plan end) name lane.node in
    record {
      lines = top_name (grid plan) x name ∷ axis ∷ [];
      told = record { birth = birth; birth_is = b; end = end; end_is = e; are = ap (λ (s : List ℕ). top_name (grid plan) x s ∷ axis_line x (axis_top plan birth) (axis_foot plan end) s lane.node ∷ []) n };
      are = second ∙ ap (λ w. with_line w axis) first;
    }

pub lanes_next : (T : Run) (plan : Plan) (cs : List Column) (k : ℕ) (d : Column) (out old new : List ℕ) → lanes_of cs ≡ plan.lanes → IsColumnOf plan cs → k < length cs
    → Writes (EachPlace (IsLane T plan) 0 k) out old → Writes (AreLinesAt T plan (get_or cs k d).x (lane_of (get_or cs k d))) old new → Writes (EachPlace (IsLane T plan) 0 (k + 1)) out new
lanes_next T plan cs k d out old new are each lt w one =
    next plan cs are each k d lt (IsLane T plan) (AreLinesAt T plan) out old new
    (λ lines told. record { lane = lane_of (get_or cs k d); at_rank = lane_at plan cs are each k d lt; told = told }) w one
