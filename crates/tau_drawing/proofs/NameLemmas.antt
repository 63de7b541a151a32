-- The names of lanes again, one lane after another.
use Rattle.std.proofs.Common.{◌≡◌, ℕ, ◌+◌, ◌<◌, List, length, get_or, refl}
use Rattle.tau_svg.specs.Markup.Lines.{Line, with_lines}
use Rattle.tau_value.specs.Written.{name_written}
use Rattle.tau_trace.specs.Run.{Run}
use Rattle.tau_svg.specs.Shapes.Each.{EachPlace, Writes}
use Rattle.tau_svg.proofs.Writing.{these}
use Rattle.tau_layout.specs.declared.columns.Column.{Column}
use Rattle.tau_layout.specs.declared.lanes.Lane.{Lane}
use Rattle.tau_layout.specs.Plans.{Plan, grid}
use Rattle.tau_layout.specs.Inner.Laying.{lane_of, lanes_of, IsColumnOf}
use Rattle.tau_drawing.specs.Lanes.NameLines.{names_foot, named_lines, IsNamed}
use Rattle.tau_drawing.proofs.ColumnLanes.{lane_at, next}

pub names_next : (T : Run) (plan : Plan) (rows : ℕ) (cs : List Column) (k : ℕ) (d : Column) (out old new : List ℕ) → lanes_of cs ≡ plan.lanes → IsColumnOf plan cs → k < length cs
    → Writes (EachPlace (IsNamed T plan rows) 0 k) out old → new ≡ with_lines old (named_lines (grid plan) (get_or cs k d).x (names_foot (grid plan) rows) (name_written T.opening.names (get_or cs k d).who)) → Writes (EachPlace (IsNamed T plan rows) 0 (k + 1)) out new
names_next T plan rows cs k d out old new are each lt w one =
    let c = get_or cs k d in
    let lines : ℕ → Lane → List Line = λ x lane. named_lines (grid plan) x (names_foot (grid plan) rows) (name_written T.opening.names lane.who) in
    next plan cs are each k d lt (IsNamed T plan rows) (λ x lane ls. ls ≡ lines x lane) out old new
    (λ ls told. record { lane = lane_of c; at_rank = lane_at plan cs are each k d lt; are = told }) w
    (these (λ ls. ls ≡ lines c.x (lane_of c)) old new (lines c.x (lane_of c)) refl one)
