-- What looks fallen, and in which rows marks stand.
use Rattle.std.proofs.Common.{◌≡◌, ◌↔◌, ℕ, ◌+◌, ◌-◌, ◌*◌, ◌/◌, ◌≤◌, List, refl, sym, ap, ◌∙◌, arith}
use Rattle.std.proofs.Math.Nat.{mul-add}
use Rattle.tau_trace.specs.Run.{Run}
use Rattle.tau_past.specs.Safety.{RolledBack}
use Rattle.tau_svg.specs.declared.shapes.window.Window.{Window}
use Rattle.tau_svg.specs.Shapes.Windows.{IsDrawn, row_of}
use Rattle.tau_svg.specs.Shapes.Grids.{rows_height}
use Rattle.tau_layout.specs.Plans.{grid}
use Rattle.tau_scene.specs.declared.timelines.states.State.{State}
use Rattle.tau_cut.specs.declared.cut.Marked.{Marked}
use Rattle.tau_scene.specs.declared.looks.kinds.StateLook.{StateLook}
use Rattle.tau_scene.specs.declared.looks.kinds.StateLook.TheVariants as states
use Rattle.tau_scene.specs.Causes.Looks.{IsStateLook}
use Rattle.tau_picture.specs.Laws.{GreyIsRolledBack, MarksStandInRows}
use Rattle.tau_picture.proofs.Whole.{step_there}
use Rattle.tau_picture.proofs.OneState.{looked}

grey : (T : Run) (cut : List Marked) (s : State) (look : StateLook) → IsStateLook T cut s look → (look ≡ states.Fallen) ↔ RolledBack T s.point
grey T cut s states.Fallen is = (λ e. is, λ r. refl)
grey T cut s states.Kept is = (λ e. absurd (cc), λ r. absurd (is.0 r))
grey T cut s states.Broken is = (λ e. absurd (cc), λ r. absurd (is.0 r))
grey T cut s states.Unkept is = (λ e. absurd (cc), λ r. absurd (is.0 r))
grey T cut s states.Doomed is = (λ e. absurd (cc), λ r. absurd (is.0 r))
grey T cut s states.Open is = (λ e. absurd (cc), λ r. absurd (is.0 r))

pub grey_is_rolled_back : GreyIsRolledBack
grey_is_rolled_back P T from to ask lines picture rank s c =
    grey T picture.cut s.state s.look (looked T picture.plan picture.cut picture.looks.states.items picture.are_looks.states_are rank s c).look_is

row_within : (v : Window) (k : ℕ) → IsDrawn v k → row_of v k ≡ k - v.from
row_within v k d = omega (arith, d.0, d.1)

split : (row a b : ℕ) → a ≤ b → row * b ≡ row * a + row * (b - a)
split row a b le = ap (λ n. row * n) (omega (arith, le)) ∙ mul-add row a (b - a)

apart : (top row names a b : ℕ) → a ≤ b → top + rows_height row names b ≡ top + rows_height row names a + row * (b - a) + names * (b / 50 - a / 50)
apart top row names a b le = omega (arith, split row a b le, split names (a / 50) (b / 50) (omega (arith, le)))

pub marks_stand_in_rows : MarksStandInRows
marks_stand_in_rows T plan j k p q dj dk lt within a b =
    let first = step_there T j (omega (arith, lt, within)) in
    let second = step_there T k within in
    let v = plan.window in
    let g = grid plan in
    let py : p.y ≡ g.top + rows_height g.row g.names (j - v.from) = (a first.0 first.1).1 ∙ ap (λ n. g.top + rows_height g.row g.names n) (row_within v j dj) in
    let qy : q.y ≡ g.top + rows_height g.row g.names (k - v.from) = (b second.0 second.1).1 ∙ ap (λ n. g.top + rows_height g.row g.names n) (row_within v k dk) in
    let less : j - v.from ≤ k - v.from = omega (arith, lt) in
    let gone : k - v.from - (j - v.from) ≡ k - j = omega (arith, lt, dj.0) in
    qy ∙ apart g.top g.row g.names (j - v.from) (k - v.from) less ∙ (λ i. sym py i + g.row * gone i + g.names * ((k - v.from) / 50 - (j - v.from) / 50))
