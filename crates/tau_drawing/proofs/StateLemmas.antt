-- The boxes of states.
use Rattle.std.proofs.Common.{◌≡◌, ℕ, ◌+◌, ◌-◌, ◌/◌, ◌≤◌, ◌<◌, List, [], ◌∷◌, Option, Some, None, Bool, true, false, length, get_or, refl, sym, ap, ◌∙◌, arith, leb, ltb, cond}
use Rattle.std.specs.Prelude.{codes}
use Rattle.std.proofs.lemmas.Bool.{lt-ltb}
use Rattle.tau_svg.specs.Markup.Lines.{Line, empty, with_line, with_lines}
use Rattle.tau_trace.specs.Run.{Run}
use Rattle.tau_svg.specs.declared.shapes.window.Window.{Window}
use Rattle.tau_svg.specs.Shapes.Windows.{count, row_of}
use Rattle.tau_svg.specs.Shapes.Grids.{row_height, first_row}
use Rattle.tau_svg.proofs.GridLemmas.{rows_grow}
use Rattle.tau_svg.specs.Shapes.Shapes.{rect_of}
use Rattle.tau_svg.specs.Shapes.Each.{EachPlace, EachItem, Writes}
use Rattle.tau_layout.specs.declared.columns.Column.{Column}
use Rattle.tau_layout.specs.Plans.{Plan, grid, row_y}
use Rattle.tau_layout.specs.Inner.Laying.{lane_of, lanes_of, IsColumnOf}
use Rattle.tau_scene.specs.declared.timelines.states.State.{State}
use Rattle.tau_scene.specs.declared.looks.looks.Seen.{Seen}
use Rattle.tau_scene.specs.declared.looks.looks.Looks.{Looks}
use Rattle.tau_drawing.proofs.ColumnLanes.{lane_at, next}
use Rattle.tau_drawing.specs.States.Names.{state_class, seen_at}
use Rattle.tau_drawing.specs.States.StateLines.{state_top, end_foot, state_foot, stable_top, stable_from, IsStateAt, AreStatesAt}

-- the states of one more lane
pub states_next : (T : Run) (plan : Plan) (looks : Looks) (cs : List Column) (k : ℕ) (d : Column) (out old new : List ℕ) → lanes_of cs ≡ plan.lanes → IsColumnOf plan cs → k < length cs
    → Writes (EachPlace (AreStatesAt T plan looks) 0 k) out old → Writes (EachItem (IsStateAt T plan (get_or cs k d).x) (seen_at looks k)) old new → Writes (EachPlace (AreStatesAt T plan looks) 0 (k + 1)) out new
states_next T plan looks cs k d out old new are each lt w one =
    next plan cs are each k d lt (AreStatesAt T plan looks) (λ x lane ls. EachItem (IsStateAt T plan x) (seen_at looks k) ls) out old new
    (λ ls told. record { lane = lane_of (get_or cs k d); at_rank = lane_at plan cs are each k d lt; are = told }) w one

-- rows go down with places

row_least : (rows : ℕ) → 14 ≤ row_height rows
row_least rows = grind arith

row_grows : (v : Window) (j k : ℕ) → j ≤ k → row_of v j ≤ row_of v k
row_grows v j k le = omega (arith, le)

row_most : (v : Window) (k : ℕ) → row_of v k ≤ count v
row_most v k = omega arith

y_grows : (plan : Plan) (j k : ℕ) → j ≤ k → row_y plan j ≤ row_y plan k
y_grows plan j k le = omega (arith, rows_grow (grid plan).row (grid plan).names (row_of plan.window j) (row_of plan.window k) (row_grows plan.window j k le))

y_most : (plan : Plan) (k : ℕ) → row_y plan k ≤ (grid plan).foot
y_most plan k = omega (arith, rows_grow (grid plan).row (grid plan).names (row_of plan.window k) (count plan.window) (row_most plan.window k))

-- the box of a state begins at the row where the state begins, or above it
top_most : (y top half : ℕ) (b : Bool) → 124 ≤ top → top ≤ y → 1 ≤ half → cond b (top - 12) (y - half + 1) ≤ y
top_most y top half true t l h = omega (arith, t, l)
top_most y top half false t l h = omega (arith, t, l, h)

-- and ends at a later row, or below it
foot_least : (y z half foot : ℕ) (b : Bool) → y ≤ z → y ≤ foot → 1 ≤ half → y ≤ cond b (z + half - 1) foot
foot_least y z half foot true l f h = omega (arith, l, h)
foot_least y z half foot false l f h = f

end_least : (plan : Plan) (begin : ℕ) (end : Option ℕ) → ((k : ℕ) → end ≡ Some k → begin ≤ k) → row_y plan begin ≤ end_foot plan end
end_least plan begin None later = y_most plan begin
end_least plan begin (Some k) later =
    foot_least (row_y plan begin) (row_y plan k) ((grid plan).row / 2) (grid plan).foot (ltb k plan.window.to) (y_grows plan begin k (later k refl)) (y_most plan begin) (omega (arith, row_least (count plan.window)))

rows_low : (band lanes longest : ℕ) → band + 46 ≤ first_row band lanes longest
rows_low band lanes longest = grind arith

pub ordered : (plan : Plan) (s : State) → ((k : ℕ) → s.end ≡ Some k → s.begin ≤ k) → state_top plan s ≤ state_foot plan s
ordered plan s later =
    let t : 124 ≤ (grid plan).top = omega (arith, rows_low (grid plan).band (length plan.lanes) plan.longest) in
    let above = top_most (row_y plan s.begin) (grid plan).top ((grid plan).row / 2) (leb s.begin plan.window.from) t (omega arith) (omega (arith, row_least (count plan.window))) in
    omega (arith, above, end_least plan s.begin s.end later)

-- the part in which a state is stable, where that is drawn
pub stable_told : (plan : Plan) (x : ℕ) (s : Seen) (k top height : ℕ) (class out new : List ℕ) → s.state.stable ≡ Some k → k < plan.window.to → class ≡ state_class s.look → top ≡ stable_top plan s.state k → height ≡ state_foot plan s.state - top
    → new ≡ with_line out (rect_of class (codes "-s") (x - 2) top 4 height empty) → new ≡ with_lines out (stable_from plan x s s.state.stable)
stable_told plan x s k top height class out new e lt ec et eh w =
    let part : List ℕ → ℕ → ℕ → Line = λ c a h. rect_of c (codes "-s") (x - 2) a 4 h empty in
    let from = stable_top plan s.state k in
    let foot = state_foot plan s.state in
    let height_is : height ≡ foot - from = omega (arith, eh, et) in
    w ∙ ap (λ c. with_line out (part c top height)) ec ∙ ap (λ a. with_line out (part (state_class s.look) a height)) et ∙ ap (λ h. with_line out (part (state_class s.look) from h)) height_is
    ∙ ap (λ b. with_lines out (cond b (part (state_class s.look) from (foot - from) ∷ []) [])) (sym (lt-ltb k plan.window.to lt))
    ∙ ap (λ o. with_lines out (stable_from plan x s o)) (sym e)
